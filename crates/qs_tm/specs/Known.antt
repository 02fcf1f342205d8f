-- Which of the transactions that a node knows something may be due to, and the span of keys that they stand in.
use Rattle.std.specs.Prelude.{◌≡◌, Bool, true, false, ◌&&◌, ◌||◌, List, [], ◌∷◌, Option, Some, None, ⊤}
use Rattle.std.specs.BTreeMap.Range.{IsLeBy, range_contains}
use Rattle.std.specs.declared.ops.Bound.TheVariants.{Included}
use Rattle.qs_base.specs.Order.{tid_cmp}
use Rattle.qs_base.specs.declared.identifiers.Tid.{Tid}
use Rattle.qs_tm.specs.Participant.{is_undecided}
use Rattle.qs_tm.specs.declared.participant.Participant.{Participant}

-- something may be due at the end of a step: it is not decided, and is asked or can't be committed any more
abbrev pub may_be_due : Participant → Bool
may_be_due part = is_undecided part && (part.asked || part.blocked)

-- the identifier stands in the span, from its first to its last; none stands in no span
abbrev pub in_span : Option (Tid × Tid) → Tid → Bool
in_span None tid = false
in_span (Some span) tid = range_contains tid_cmp (Included span.0) (Included span.1) tid

abbrev pub IsForwardSpan : Option (Tid × Tid) → Type 0
IsForwardSpan None = ⊤
IsForwardSpan (Some span) = IsLeBy tid_cmp span.0 span.1

-- all to which something may be due stand in the span
abbrev pub AreInSpan : Option (Tid × Tid) → List (Tid × Participant) → Type 0
AreInSpan span [] = ⊤
AreInSpan span (entry ∷ entries) = (may_be_due entry.1 ≡ true → in_span span entry.0 ≡ true) × AreInSpan span entries

pub record IsSpanned (span : Option (Tid × Tid)) (entries : List (Tid × Participant)) : Type 0 where
  pub forward : IsForwardSpan span
  pub due : AreInSpan span entries
