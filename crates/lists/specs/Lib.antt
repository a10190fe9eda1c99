-- Lists: tests, filters, sums, consecutive numbers and the first of the least, as far as the kit has them not.
pub mod Tests
pub mod Filters
pub mod Sums
pub mod Numbers
pub mod Least
pub mod Over
pub mod Filled
pub mod Pairs
