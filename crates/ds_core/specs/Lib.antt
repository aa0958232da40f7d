pub mod Courses
pub mod Happenings
pub mod Machines
pub mod Rounds
pub mod Steps
pub mod Takings
pub mod Timelines
pub mod Witnesses
