mod LiveItems
mod SortedItems
mod Rebuilds
mod QueuePlans
mod Follows
mod Applies
