mod Machines
mod Pairs
