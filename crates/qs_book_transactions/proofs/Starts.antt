-- More covers than were served count from no start.
use Rattle.std.proofs.Common.{◌≡◌, ◌<◌, ◌+◌, ◌==◌, ℕ, List, [], ◌∷◌, Bool, true, false, refl, arith}
use Rattle.std.specs.Prelude.{◌&&◌}
use Rattle.std.specs.List.{list_any}
use Rattle.std.proofs.lemmas.Bool.Decides.{nat_tests}
use Rattle.qs_base.specs.Order.{same_member}
use Rattle.qs_base.specs.declared.identifiers.Member.{Member}
use Rattle.qs_book_machine.specs.declared.transaction.Start.{Start}
use Rattle.qs_book_machine.specs.Transaction.{is_start}

unequal : (a served covers : ℕ) → served < covers → (a + covers == served) ≡ false
unequal a served covers less = grind (arith, nat_tests)

and_false : (a b : Bool) → (a && (b && false)) ≡ false
and_false true true = refl
and_false true false = refl
and_false false b = refl

pub no_start : (member : Member) (inc served covers : ℕ) (starts : List Start) → served < covers → list_any (is_start member inc served covers) starts ≡ false
no_start member inc served covers [] less = refl
no_start member inc served covers (s ∷ starts) less =
    rw (unequal s.served served covers less, and_false (same_member s.life.member member) (s.life.inc == inc)) (no_start member inc served covers starts less)
