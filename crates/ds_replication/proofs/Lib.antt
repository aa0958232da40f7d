mod Cuts
mod Digits
mod Printed
mod Scripted
