-- What a message that is sent adds to what is on its way.
use Rattle.qs_world_refine.proofs.Words.{◌≡◌, ℕ, ◌==◌, ◌&&◌, not, Bool, true, false, List, [], ◌∷◌, ◌++◌, map, refl, sym, ap, ◌∙◌, append_assoc, if◌then◌else◌, filter, eqb-true, NodeNo, Tid, Message, Sending, Said, said, all_said, Scene, said_during, unmet_during, eqb-self}
use Rattle.qs_world_refine.specs.Shows.{sent_to}
use Rattle.qs_world_refine.specs.Sights.{with_at4}
use Rattle.qs_world_refine.proofs.Still.{at_four}

pub append_nil : {A : Type 0} (xs : List A) → xs ++ [] ≡ xs
append_nil [] = refl
append_nil {A} (x ∷ xs) = ap (λ (t : List A). x ∷ t) (append_nil xs)

-- what two channels say, one behind the other
pub said_append : (tid : Tid) (sent more : List Message) → all_said tid (sent ++ more) ≡ all_said tid sent ++ all_said tid more
said_append tid [] more = refl
said_append tid (m ∷ sent) more =
    ap (λ (t : List Said). said tid m ++ t) (said_append tid sent more) ∙ sym (append_assoc (said tid m) (all_said tid sent) (all_said tid more))

-- ---- one more message

pub sent_more : (tid : Tid) (q : ℕ) (to : NodeNo) (message : Message) (sendings : List Sending)
    → all_said tid (sent_to q (sendings ++ record { to = to; message = message } ∷ [])) ≡ all_said tid (sent_to q sendings) ++ (if to.0 == q then said tid message else [])
sent_more tid q to message [] = by (to.0 == q)
  where
    by : (b : Bool) → all_said tid (map (λ (s : Sending). s.message) (if b then record { to = to; message = message } ∷ [] else [])) ≡ (if b then said tid message else [])
    by true = append_nil (said tid message)
    by false = refl
sent_more tid q to message (s ∷ sendings) = by (s.to.0 == q) (sent_more tid q to message sendings)
  where
    by : (b : Bool) → all_said tid (sent_to q (sendings ++ record { to = to; message = message } ∷ [])) ≡ all_said tid (sent_to q sendings) ++ (if to.0 == q then said tid message else [])
        → all_said tid (map (λ (s : Sending). s.message) (if b then s ∷ filter (λ (s : Sending). s.to.0 == q) (sendings ++ record { to = to; message = message } ∷ []) else filter (λ (s : Sending). s.to.0 == q) (sendings ++ record { to = to; message = message } ∷ [])))
        ≡ all_said tid (map (λ (s : Sending). s.message) (if b then s ∷ filter (λ (s : Sending). s.to.0 == q) sendings else filter (λ (s : Sending). s.to.0 == q) sendings)) ++ (if to.0 == q then said tid message else [])
    by true is = ap (λ (t : List Said). said tid s.message ++ t) is ∙ sym (append_assoc (said tid s.message) (all_said tid (sent_to q sendings)) (if to.0 == q then said tid message else []))
    by false is = is

all_four : (a b c d : Bool) → (a && (b && (c && d))) ≡ true → (a ≡ true) × (b ≡ true) × (c ≡ true) × (d ≡ true)
all_four true true true true e = (refl, refl, refl, refl)
all_four false b c d e = absurd (cc e)
all_four true false c d e = absurd (cc e)
all_four true true false d e = absurd (cc e)
all_four true true true false e = absurd (cc e)

module _ (tid : Tid) (scene : Scene) (n : ℕ) (to : NodeNo) (message : Message) (sendings : List Sending) where
  abbrev pub more : List Sending
  more = sendings ++ record { to = to; message = message } ∷ []

  pub sent_here : all_said tid (sent_to to.0 more) ≡ all_said tid (sent_to to.0 sendings) ++ said tid message
  sent_here = sent_more tid to.0 to message sendings ∙ by (to.0 == to.0) (eqb-self to.0)
    where
      by : (b : Bool) → b ≡ true → all_said tid (sent_to to.0 sendings) ++ (if b then said tid message else []) ≡ all_said tid (sent_to to.0 sendings) ++ said tid message
      by b e = rw e refl

  pub sent_there : (b : ℕ) → (to.0 == b) ≡ false → all_said tid (sent_to b more) ≡ all_said tid (sent_to b sendings)
  sent_there b other = sent_more tid b to message sendings ∙ by (to.0 == b) other
    where
      by : (c : Bool) → c ≡ false → all_said tid (sent_to b sendings) ++ (if c then said tid message else []) ≡ all_said tid (sent_to b sendings)
      by c e = rw e (append_nil (all_said tid (sent_to b sendings)))

  -- on the link to the incarnation that is known
  pub said_more : (scene.knows n to.0 == 0) ≡ false → (a k b j : ℕ)
      → said_during tid scene n more a k b j
      ≡ with_at4 (said_during tid scene n sendings) n (scene.inc n) to.0 (scene.knows n to.0) (said_during tid scene n sendings n (scene.inc n) to.0 (scene.knows n to.0) ++ said tid message) a k b j
  said_more known a k b j = at_four (λ (a k b j : ℕ) (s : List Said). said_during tid scene n more a k b j ≡ s) (said_during tid scene n sendings) n (scene.inc n) to.0 (scene.knows n to.0) (said_during tid scene n sendings n (scene.inc n) to.0 (scene.knows n to.0) ++ said tid message) here a k b j there
    where
      pick : (t : Bool) → t ≡ true → (xs ys zs : List Said) → (if t then xs ++ (ys ++ zs) else xs) ≡ (if t then xs ++ ys else xs) ++ zs
      pick t e xs ys zs = rw e (sym (append_assoc xs ys zs))

      test : ((n == n) && ((scene.inc n == scene.inc n) && ((scene.knows n to.0 == scene.knows n to.0) && not (scene.knows n to.0 == 0)))) ≡ true
      test = rw (eqb-self n, eqb-self (scene.inc n), eqb-self (scene.knows n to.0), known) refl

      here : said_during tid scene n more n (scene.inc n) to.0 (scene.knows n to.0) ≡ said_during tid scene n sendings n (scene.inc n) to.0 (scene.knows n to.0) ++ said tid message
      here = rw sent_here (pick ((n == n) && ((scene.inc n == scene.inc n) && ((scene.knows n to.0 == scene.knows n to.0) && not (scene.knows n to.0 == 0)))) test (all_said tid (scene.pending n (scene.inc n) to.0 (scene.knows n to.0))) (all_said tid (sent_to to.0 sendings)) (said tid message))

      there : (a ≡ n → k ≡ scene.inc n → b ≡ to.0 → j ≡ scene.knows n to.0 → ⊥) → said_during tid scene n more a k b j ≡ said_during tid scene n sendings a k b j
      there apart = by ((a == n) && ((k == scene.inc n) && ((j == scene.knows n b) && not (j == 0)))) refl
        where
          elsewhere : (c : Bool) → (to.0 == b) ≡ c → ((a == n) && ((k == scene.inc n) && ((j == scene.knows n b) && not (j == 0)))) ≡ true → all_said tid (sent_to b more) ≡ all_said tid (sent_to b sendings)
          elsewhere false e all = sent_there b e
          elsewhere true e all =
              let four = all_four (a == n) (k == scene.inc n) (j == scene.knows n b) (not (j == 0)) all in
              let same : b ≡ to.0 = sym (eqb-true to.0 b e) in
              absurd (apart (eqb-true a n four.0) (eqb-true k (scene.inc n) four.1) same (eqb-true j (scene.knows n b) four.2 ∙ ap (λ (m : ℕ). scene.knows n m) same))

          by : (t : Bool) → ((a == n) && ((k == scene.inc n) && ((j == scene.knows n b) && not (j == 0)))) ≡ t
              → (if t then all_said tid (scene.pending a k b j) ++ all_said tid (sent_to b more) else all_said tid (scene.pending a k b j))
              ≡ (if t then all_said tid (scene.pending a k b j) ++ all_said tid (sent_to b sendings) else all_said tid (scene.pending a k b j))
          by true e = ap (λ (s : List Said). all_said tid (scene.pending a k b j) ++ s) (elsewhere (to.0 == b) refl e)
          by false e = refl

  -- where one is known, nothing more waits
  pub unmet_same : (scene.knows n to.0 == 0) ≡ false → (a b : ℕ) → unmet_during tid scene n more a b ≡ unmet_during tid scene n sendings a b
  unmet_same known a b = by (a == n) (to.0 == b) refl
    where
      by : (an c : Bool) → (to.0 == b) ≡ c
          → (if an && (scene.knows n b == 0) then all_said tid (scene.unmet a b) ++ all_said tid (sent_to b more) else all_said tid (scene.unmet a b))
          ≡ (if an && (scene.knows n b == 0) then all_said tid (scene.unmet a b) ++ all_said tid (sent_to b sendings) else all_said tid (scene.unmet a b))
      by an false e = rw (sent_there b e) refl
      by an true e = met (an && (scene.knows n b == 0)) (off an)
        where
          off : (an : Bool) → (an && (scene.knows n b == 0)) ≡ false
          off true = rw (sym (eqb-true to.0 b e)) known
          off false = refl

          met : (t : Bool) → t ≡ false
              → (if t then all_said tid (scene.unmet a b) ++ all_said tid (sent_to b more) else all_said tid (scene.unmet a b))
              ≡ (if t then all_said tid (scene.unmet a b) ++ all_said tid (sent_to b sendings) else all_said tid (scene.unmet a b))
          met t e = rw e refl
