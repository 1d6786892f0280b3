mod KeysAlike
mod OrderedKeys
mod RangeWalk
