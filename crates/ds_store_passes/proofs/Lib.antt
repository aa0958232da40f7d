pub mod Growing
pub mod Seeing
pub mod PassReads
pub mod SlotLists
pub mod AllSeats
pub mod Drawing
