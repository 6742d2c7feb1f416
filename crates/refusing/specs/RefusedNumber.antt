use Rattle.std.specs.Prelude.{ℕ}
use Rattle.refusing.specs.declared.RefusingAllocator.{RefusingAllocator}

-- the number of the allocation that the allocator refuses, counted from 1, or 0 for none
abbrev pub refused_number : {A : Type 0} → RefusingAllocator A → ℕ
refused_number heap = heap.requests.refused
