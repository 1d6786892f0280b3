mod Shelved
mod Passing
mod NodeMaps
mod Relisted
mod IndexKept
mod EdgesInOrder
mod Attributes
mod GraphPlans
pub mod EdgesChecked
mod RemovalNumbers
mod NodeFacts
mod GraphBehind
mod GraphCalls
mod ObjectNodes
mod GraphScans
mod GraphBegins
