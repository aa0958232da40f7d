mod Histories
mod Images
mod Openings
mod Runs
