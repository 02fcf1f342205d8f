-- What stood in a ring is moved behind what was carried, or nothing is.
use Rattle.std.proofs.Common.{◌≡◌, ◌∙◌, ap, sym, arith, List, [], ◌++◌, append-nil}
use Rattle.std.proofs.lemmas.List.{append_cancel_left, append_cancel_right}
use Rattle.std.specs.Global.{Global}
use Rattle.std.specs.Prelude.{Result, Ok, Err, OnErr, OnOk}
use Rattle.rtrb.specs.declared.AnyItems.{AnyItems}
use Rattle.rtrb.specs.declared.consumer.Consumer.{Consumer}
use Rattle.rtrb.specs.Ring.{SameConsumer, known_items, received}
use Rattle.qs_link.specs.Lane.{DrawValue, Drawn}

pub pulled : {T E : Type 0} (result : Result (Unit {0}) E) (old new : DrawValue T) (mid : Consumer T Global AnyItems) → received mid ≡ received old.ring → SameConsumer old.ring mid → SameConsumer mid new.ring
    → new.inbox ++ known_items new.ring ≡ old.inbox ++ known_items mid → received new.ring ++ known_items new.ring ≡ received mid ++ known_items mid
    → OnOk result (known_items new.ring ≡ []) → OnErr result (new.inbox ≡ old.inbox) → Drawn [] old new
pulled (Ok done) old new mid looked first second inbox ring all none = record {
  on = known_items mid;
  inbox = sym inbox ∙ (ap (λ (l : List _). new.inbox ++ l) all ∙ append-nil new.inbox);
  received = sym (append-nil (received new.ring)) ∙ (ap (λ (l : List _). received new.ring ++ l) (sym all) ∙ (ring ∙ ap (λ (l : List _). l ++ known_items mid) looked));
  ring = grind (arith, first, second);
}
pulled (Err refused) old new mid looked first second inbox ring all none = record {
  on = [];
  inbox = append-nil old.inbox ∙ sym none;
  received = append_cancel_right (received new.ring) (received mid) (known_items mid) (ap (λ (l : List _). received new.ring ++ l) (sym known) ∙ ring) ∙ (looked ∙ sym (append-nil (received old.ring)));
  ring = grind (arith, first, second);
}
  where
    known : known_items new.ring ≡ known_items mid
    known = append_cancel_left old.inbox (known_items new.ring) (known_items mid) (ap (λ (l : List _). l ++ known_items new.ring) (sym none) ∙ inbox)
