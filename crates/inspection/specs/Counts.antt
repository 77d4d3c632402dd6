-- The counts of an inspection.
use Rattle.std.specs.Prelude.{ℕ, ◌+◌, ◌-◌, ◌^◌, min}
use Rattle.inspection.specs.declared.summary.Summary.{Summary}
use Rattle.inspection.specs.Findings.{Found, descriptor, structure, refused, blank, other}

abbrev pub nothing_met : Summary
nothing_met = record { descriptors = 0; structures = 0; refused = 0; blank = 0; other = 0 }

-- one more, up to the largest number of 64 bits
abbrev pub one_more : ℕ → ℕ
one_more n = min (n + 1) (2 ^ 64 - 1)

-- one sector more, counted by what it is, and by nothing else
abbrev pub noted : Found → Summary → Summary
noted (descriptor p d) s = record s { descriptors = one_more s.descriptors }
noted (structure t) s = record s { structures = one_more s.structures }
noted (refused f) s = record s { refused = one_more s.refused }
noted blank s = record s { blank = one_more s.blank }
noted other s = record s { other = one_more s.other }

abbrev pub all_met : Summary → ℕ
all_met s = s.descriptors + s.structures + s.refused + s.blank + s.other
