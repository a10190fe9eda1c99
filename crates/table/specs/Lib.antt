-- The small table that document 01 asks to be proved together, as one statement.
pub mod Table
