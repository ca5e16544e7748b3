mod Runs
mod Told
