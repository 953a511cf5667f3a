-- The copies are the same regions as those so far.
use Rattle.std.proofs.Common.{◌≡◌, map, take}
use Rattle.minidump_memory.specs.LinuxMaps.{map_info_of}
use Rattle.minidump_memory.proofs.linux_maps.copy_regions.Given as goal

abbrev pub invariant-loop-region : goal.invariant-loop-region
invariant-loop-region l = map map_info_of l.copies.items ≡ map map_info_of (take l.region-index l.regions)
