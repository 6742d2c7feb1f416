mod Shown
mod Answered
mod Typed
mod Runs
mod Lines
mod Taken
mod Logged
