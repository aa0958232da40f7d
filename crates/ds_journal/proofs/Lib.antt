mod Kept
mod Noting
mod Rooms
