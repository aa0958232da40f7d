pub mod AskedLines
