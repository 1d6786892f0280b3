pub mod Queued
pub mod PQueue
pub mod QueuePlan
