pub mod AskedSteps
pub mod Courses
pub mod DrawnLaws
pub mod SessionLaws
pub mod Turns
pub mod VerdictLaws
pub mod WalkLaws
pub mod Walking
