-- Texts, as files and listings are written: bytes of ASCII, pieces at a separator, lines and fields, and whole numbers in decimal.
-- It rests on the tests of `lists`. Taken as given from document 01: ASCII, one tab between fields, a line feed behind each line, and how
-- numbers are written.
pub mod Bytes
pub mod Lines
pub mod Decimal
pub mod Text
