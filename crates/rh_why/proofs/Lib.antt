mod MetObjects
mod First
mod Ways
mod Steps
mod Texts
