-- What the program `page` prints.
pub mod Printed
pub mod Runs
pub mod Steps
pub mod Inner
