mod Closing
mod Outcomes
mod Sent
