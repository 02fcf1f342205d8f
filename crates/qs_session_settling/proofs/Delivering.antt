-- At rest all that was posted between two incarnations has been handed up.
use Rattle.std.proofs.Common.{◌≡◌, ◌≢◌, ℕ, ◌≤◌, true, sym, subst, ap, ◌∙◌, arith, List, [], ◌++◌, length, length-drop, drop, append-nil}
use Rattle.std.proofs.lemmas.List.{nil_from_length}
use Rattle.qs_session_channels.specs.End.{Packet}
use Rattle.qs_session_channels.specs.Network.{Network, Event, Run, start}
use Rattle.qs_session_channels.specs.Channels.{Channels}
use Rattle.qs_session_channels.specs.Shown.{Shows}
use Rattle.qs_session_settling.specs.Pairs.{Pair}
use Rattle.qs_session_settling.specs.Passes.{QuietPasses}
use Rattle.qs_session_settling.specs.Settled.{IsAtRest}
use Rattle.qs_session_settling.specs.Ran.{between, AreUp}
use Rattle.qs_session_settling.specs.Delivered.{GoesOn, IsDelivered, AreDelivered}
use Rattle.qs_session_settling.proofs.GoingOn.{passes_go}
use Rattle.qs_session_settling.proofs.Leaving.{run_settles}

-- a front with nothing behind it is the whole
whole : {A : Type 0} → (hs xs : List A) (acked : ℕ) → xs ≡ hs ++ drop (length hs) xs → drop acked xs ≡ [] → acked ≤ length hs → hs ≡ xs
whole {A} hs xs acked front none more =
    let short : length xs ≤ acked = grind (arith, ap length none, length-drop) in
    let rest : drop (length hs) xs ≡ [] = nil_from_length (drop (length hs) xs) (grind (arith, short, more, length-drop)) in
    sym (front ∙ ap (λ ys. hs ++ ys) rest ∙ append-nil hs)

delivered : {M : Type 0} → (w : Network M) (c : Channels M) → Shows w c → (n m : ℕ) → w.up n ≡ true → w.up m ≡ true → (w.end n m).known ≡ (w.end m n).mine → (w.end n m).kept ≡ [] → IsDelivered w c n m
delivered {M} w c r n m one two knows none =
    whole (c.handed n m (w.inc n) (w.inc m)) (c.posted n m (w.inc n) (w.inc m)) (w.end n m).acked ((r.between n m).prefix (w.inc n) (w.inc m))
    (sym (subst (λ j. (w.end n m).kept ≡ drop (w.end n m).acked (c.posted n m (w.inc n) j)) present ((r.own n m one).kept some)) ∙ none)
    (subst (λ j. (w.end n m).acked ≤ length (c.handed n m (w.inc n) j)) present ((r.own n m one).acked some))
  where
    present : (w.end n m).known ≡ w.inc m
    present = knows ∙ (r.own m n two).mine

    some : (w.end n m).known ≢ 0
    some zero = absurd (grind (arith, zero, present, (r.own m n two).born))

pub delivers : {M : Type 0} → (w : Network M) (c : Channels M) → Shows w c → (n m : ℕ) (there back : List (Packet M)) → AreUp w n m there back → IsAtRest (between w n m there back) → AreDelivered w c n m
delivers w c r n m there back up rest = (delivered w c r n m up.left up.right rest.known.left rest.left.kept, delivered w c r m n up.right up.left rest.known.right rest.right.kept)

pub run_delivers : {M : Type 0} → (hello : M) (inc : ℕ → ℕ) (es : List (Event M)) (w : Network M) → Run hello (start inc) es w → (n m : ℕ) → n ≢ m → (there back : List (Packet M)) → AreUp w n m there back
    → (new : Pair M) → QuietPasses hello 11 (between w n m there back) new → (g : GoesOn hello w n m new) × ((c : Channels M) → Shows g.network c → AreDelivered g.network c n m)
run_delivers {M} hello inc es w run n m apart there back up new passes =
    let g = passes_go hello 11 w n m apart there back up new passes in
    let rest = (run_settles hello inc es w run n m there back up new passes).rests in
    (g, λ c r. delivers g.network c r n m new.left.link new.right.link g.are_up (subst (λ (x : Pair M). IsAtRest x) (sym g.are_pair) rest))
