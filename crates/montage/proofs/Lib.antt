mod CallsAsked
mod ClocksAsked
mod CallersLeft
mod Attempted
