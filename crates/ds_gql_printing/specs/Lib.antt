pub mod PrintLaws
pub mod Printers
pub mod Printing
