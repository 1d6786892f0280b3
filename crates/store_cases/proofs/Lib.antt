mod NewHeaps
mod Tickets
