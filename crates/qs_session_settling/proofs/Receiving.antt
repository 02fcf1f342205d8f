-- What a packet makes of the end that takes it, in the four ways in which it may be taken.
use Rattle.std.proofs.Common.{◌≡◌, ◌≢◌, ◌⊎◌, Bool, ℕ, ◌+◌, ◌-◌, ◌<◌, ◌≤◌, true, refl, arith, length, take, drop, inl, inr, length-take, length-drop}
use Rattle.std.proofs.lemmas.Bool.Decides.{nat_tests}
use Rattle.qs_session_channels.specs.End.{End, Packet, Answer, OldPeer, NewPeer, OldSelf, Hello, Repeat, Early, Message, Answers, answer, left, received, acknowledged}
use Rattle.qs_session_channels.proofs.ReceiveShown.{answers}

-- it is of an incarnation that is known to be dead
pub record Ignores {M : Type 0} (e : End M) (p : Packet M) (f : End M) : Type 0 where
  pub older : p.inc < e.known
  pub same : f ≡ e

-- it is of a later incarnation than was known
pub record Learns {M : Type 0} (e : End M) (p : Packet M) (f : End M) : Type 0 where
  pub newer : e.known < p.inc
  pub mine : f.mine ≡ e.mine
  pub known : f.known ≡ p.inc
  pub taken : f.taken ≡ 0
  pub acked : f.acked ≡ 0
  pub met : f.met ≡ true → p.to_inc ≡ e.mine

-- it is of the known one, which does not know this one
pub record IsAsked {M : Type 0} (e : End M) (p : Packet M) (f : End M) : Type 0 where
  pub by : p.inc ≡ e.known
  pub for : p.to_inc ≢ e.mine
  pub same : f ≡ record e { owed = true }

-- it is of the known one, and for this one
pub record TakesIn {M : Type 0} (e : End M) (p : Packet M) (f : End M) : Type 0 where
  pub by : p.inc ≡ e.known
  pub for : p.to_inc ≡ e.mine
  pub mine : f.mine ≡ e.mine
  pub known : f.known ≡ e.known
  pub met : f.met ≡ true
  pub taken : ((f.taken ≡ e.taken + 1) × (p.number ≡ e.taken + 1)) ⊎ ((f.taken ≡ e.taken) × (p.number ≢ e.taken + 1))
  pub sum : f.acked + length f.kept ≡ e.acked + length e.kept
  pub rises : e.acked ≤ f.acked
  pub within : (f.acked ≡ e.acked) ⊎ (f.acked ≤ p.ack)
  pub acks : (t : ℕ) → t ≤ p.ack → t ≤ e.acked + length e.kept → t ≤ f.acked
  pub owed : e.owed ≡ true → f.owed ≡ true
  pub asked : p.number ≢ 0 → f.owed ≡ true
  pub calm : p.number ≡ 0 → f.owed ≡ e.owed

abbrev pub Taking : {M : Type 0} → End M → Packet M → End M → Type 0
Taking e p f = Ignores e p f ⊎ Learns e p f ⊎ IsAsked e p f ⊎ TakesIn e p f

-- what is acknowledged moves from what is kept
pub record Acked (M : Type 0) (e : End M) (ack : ℕ) : Type 0 where
  pub sum : e.acked + length (take (ack - e.acked) e.kept) + length (drop (ack - e.acked) e.kept) ≡ e.acked + length e.kept
  pub within : (e.acked + length (take (ack - e.acked) e.kept) ≡ e.acked) ⊎ (e.acked + length (take (ack - e.acked) e.kept) ≤ ack)
  pub acks : (t : ℕ) → t ≤ ack → t ≤ e.acked + length e.kept → t ≤ e.acked + length (take (ack - e.acked) e.kept)

is_acked : {M : Type 0} → (e : End M) (ack : ℕ) → Acked M e ack
is_acked e ack = record {
  sum = grind (arith, length-take, length-drop);
  within = grind (arith, length-take, length-drop);
  acks = λ t is more. grind (arith, length-take, length-drop, is, more);
}

takes_in : {M : Type 0} → (e : End M) (p : Packet M) (owed : Bool) (taken : ℕ) → p.inc ≡ e.known → p.to_inc ≡ e.mine → (((taken ≡ e.taken + 1) × (p.number ≡ e.taken + 1)) ⊎ ((taken ≡ e.taken) × (p.number ≢ e.taken + 1)))
    → (e.owed ≡ true → owed ≡ true) → (p.number ≢ 0 → owed ≡ true) → (p.number ≡ 0 → owed ≡ e.owed) → TakesIn e p (acknowledged e p.ack owed taken)
takes_in e p owed taken by for n on asked calm =
    let k = is_acked e p.ack in
    record { by = by; for = for; mine = refl; known = refl; met = refl; taken = n; sum = k.sum; rises = grind arith; within = k.within; acks = k.acks; owed = on; asked = asked; calm = calm }

by_answer : {M : Type 0} → (e : End M) (p : Packet M) (x : Answer M) → Answers e p x → Taking e p (left x e p)
by_answer e p (OldPeer known got) is = inl (record { older = is.2; same = refl })
by_answer e p (NewPeer old new) is = inr (inl (record { newer = is.2; mine = refl; known = is.1; taken = refl; acked = refl; met = λ on. grind (arith, nat_tests, on) }))
by_answer e p (OldSelf mine got) is = inr (inr (inl (record { by = is.2; for = is.3; same = refl })))
by_answer e p Hello is = inr (inr (inr (takes_in e p e.owed e.taken is.0 is.1 (inr (refl, grind (arith, is.2))) (λ on. on) (λ some. absurd (some is.2)) (λ none. refl))))
by_answer e p (Repeat number) is = inr (inr (inr (takes_in e p true e.taken is.1 is.2 (inr (refl, grind (arith, is.4))) (λ on. refl) (λ some. refl) (λ none. absurd (grind (arith, is.3, none))))))
by_answer e p (Early number expected) is = inr (inr (inr (takes_in e p true e.taken is.2 is.3 (inr (refl, grind (arith, is.4))) (λ on. refl) (λ some. refl) (λ none. absurd (grind (arith, is.4, none))))))
by_answer e p (Message m) is = inr (inr (inr (takes_in e p true (e.taken + 1) is.1 is.2 (inl (refl, is.3)) (λ on. refl) (λ some. refl) (λ none. absurd (grind (arith, is.3, none))))))

pub taking : {M : Type 0} → (e : End M) (p : Packet M) → Taking e p (received e p)
taking e p = by_answer e p (answer e p) (answers e p (answer e p) refl)
