mod Loads
mod Parting
mod Starting
