-- What is on its way stays so while the machine's link does, and what is put comes behind it.
use Rattle.qs_world_refine.proofs.Words.{◌≡◌, inl, inr, ℕ, ◌+◌, ◌≤◌, Bool, true, false, List, [], ◌∷◌, ◌++◌, arith, refl, sym, ◌∙◌, subst, NodeNo, Said, Requested, Closed, Outcome_told, Taken_in, Inquired, Link, IsLink, IsEmpty, IsTold}
use Rattle.qs_world_refine.specs.Links.{IsTaken}

-- the later link has the same messages up to where the earlier one ends; whatever was put once stays put
pub record Carries (l k : Link) : Type 0 where
  pub live : k.live ≡ true → l.live ≡ true
  pub received : k.received ≡ l.received
  pub taken : k.taken ≡ l.taken
  pub to_home : k.to_home ≡ l.to_home
  pub inquiry_taken : k.inquiry_taken ≡ l.inquiry_taken
  pub server : (n : ℕ) → n ≤ l.posted → k.server n ≡ l.server n
  pub closer : (n : ℕ) → n ≤ l.closers → k.closer n ≡ l.closer n
  pub closer_set : (n m : ℕ) → n ≤ l.closers → k.closer_set n m ≡ l.closer_set n m
  pub tell_commit : l.tell_commit ≡ true → k.tell_commit ≡ true
  pub tell_abort : l.tell_abort ≡ true → k.tell_abort ≡ true
  pub ack_put : l.ack_put ≡ true → k.ack_put ≡ true
  pub aborted : l.aborted ≡ true → k.aborted ≡ true
  pub named : (n : ℕ) → l.named n ≡ true → k.named n ≡ true

-- and ends where that one did
pub record Stays (l k : Link) : Type 0 where
  pub carries : Carries l k
  pub posted : k.posted ≡ l.posted
  pub closers : k.closers ≡ l.closers
  pub inquiry_put : l.to_home ≡ true → k.inquiry_put ≡ l.inquiry_put

pub record Within (l : Link) : Type 0 where
  pub requests : l.received ≤ l.posted
  pub closers : l.taken ≤ l.closers

-- what is on its way was put
pub within : (saids : List Said) (l : Link) → IsLink l saids → Within l
within [] l is = record { requests = is.requests; closers = is.closers }
within (Requested number server ∷ rest) l is = let more = within rest (record l { received = l.received + 1 }) is.2 in record { requests = omega (arith, more.requests); closers = more.closers }
within (Closed number told ∷ rest) l is = let more = within rest (record l { taken = l.taken + 1 }) is.2 in record { requests = more.requests; closers = omega (arith, more.closers) }
within (Outcome_told commit ∷ rest) l is = within rest l is.1
within (Taken_in further ∷ rest) l is = within rest l is.1
within (Inquired ∷ rest) l is = let more = within rest (record l { inquiry_taken = l.inquiry_taken + 1 }) is in record { requests = more.requests; closers = more.closers }

-- and so were the inquiries
pub asked : (saids : List Said) (l : Link) → l.to_home ≡ true → IsLink l saids → l.inquiry_taken ≤ l.inquiry_put
asked [] l home is = is.inquiries home
asked (Requested number server ∷ rest) l home is = asked rest (record l { received = l.received + 1 }) home is.2
asked (Closed number told ∷ rest) l home is = asked rest (record l { taken = l.taken + 1 }) home is.2
asked (Outcome_told commit ∷ rest) l home is = asked rest l home is.1
asked (Taken_in further ∷ rest) l home is = asked rest l home is.1
asked (Inquired ∷ rest) l home is = let more = asked rest (record l { inquiry_taken = l.inquiry_taken + 1 }) home is in omega (arith, more)

told_still : (commit : Bool) (l k : Link) → Carries l k → IsTold l commit → IsTold k commit
told_still true l k c is = c.tell_commit is
told_still false l k c is = c.tell_abort is

taken_still : (further : List NodeNo) (l k : Link) → Carries l k → IsTaken l further → IsTaken k further
taken_still further l k c (inl is) = inl (c.ack_put is.0, is.1)
taken_still further l k c (inr is) = inr (c.aborted is.0, λ n has. c.named n (is.1 n has))

-- one message of each kind was handed up on both
on_request : (l k : Link) → Carries l k → Carries (record l { received = l.received + 1 }) (record k { received = k.received + 1 })
on_request l k c = record { live = c.live; received = grind (arith, c.received); taken = c.taken; to_home = c.to_home; inquiry_taken = c.inquiry_taken; server = c.server; closer = c.closer; closer_set = c.closer_set; tell_commit = c.tell_commit; tell_abort = c.tell_abort; ack_put = c.ack_put; aborted = c.aborted; named = c.named }

on_closer : (l k : Link) → Carries l k → Carries (record l { taken = l.taken + 1 }) (record k { taken = k.taken + 1 })
on_closer l k c = record { live = c.live; received = c.received; taken = grind (arith, c.taken); to_home = c.to_home; inquiry_taken = c.inquiry_taken; server = c.server; closer = c.closer; closer_set = c.closer_set; tell_commit = c.tell_commit; tell_abort = c.tell_abort; ack_put = c.ack_put; aborted = c.aborted; named = c.named }

on_inquiry : (l k : Link) → Carries l k → Carries (record l { inquiry_taken = l.inquiry_taken + 1 }) (record k { inquiry_taken = k.inquiry_taken + 1 })
on_inquiry l k c = record { live = c.live; received = c.received; taken = c.taken; to_home = c.to_home; inquiry_taken = grind (arith, c.inquiry_taken); server = c.server; closer = c.closer; closer_set = c.closer_set; tell_commit = c.tell_commit; tell_abort = c.tell_abort; ack_put = c.ack_put; aborted = c.aborted; named = c.named }

request_same : (number server : ℕ) (l k : Link) → Carries l k → l.received + 1 ≤ l.posted → (number ≡ l.received + 1) × (server ≡ l.server number) → (number ≡ k.received + 1) × (server ≡ k.server number)
request_same number server l k c below is = (grind (arith, is, c.received), grind (arith, is, below, c.server number))

closer_same : (number : ℕ) (told : ℕ → Bool) (l k : Link) → Carries l k → l.taken + 1 ≤ l.closers → number ≡ l.closer (l.taken + 1) → ((n : ℕ) → l.closer_set (l.taken + 1) n ≡ told n) → (number ≡ k.closer (k.taken + 1)) × ((n : ℕ) → k.closer_set (k.taken + 1) n ≡ told n)
closer_same number told l k c below is sets = (rw c.taken (is ∙ sym (c.closer (l.taken + 1) below)), λ n. rw c.taken (c.closer_set (l.taken + 1) n below ∙ sets n))

-- ---- the same messages
empty_still : (l k : Link) → Stays l k → IsEmpty l → IsEmpty k
empty_still l k c is = grind (arith, c, is)

abbrev stays_with : (l k : Link) (c : Carries l k) → k.posted ≡ l.posted → k.closers ≡ l.closers → (l.to_home ≡ true → k.inquiry_put ≡ l.inquiry_put) → Stays l k
stays_with l k c a b d = record { carries = c; posted = a; closers = b; inquiry_put = d }

pub still : (saids : List Said) (l k : Link) → Stays l k → IsLink l saids → IsLink k saids
still [] l k c is = empty_still l k c is
still (Requested number server ∷ rest) l k c is =
    let same = request_same number server l k c.carries (within rest (record l { received = l.received + 1 }) is.2).requests (is.0, is.1) in
    (same.0, same.1, still rest (record l { received = l.received + 1 }) (record k { received = k.received + 1 }) (record { carries = on_request l k c.carries; posted = c.posted; closers = c.closers; inquiry_put = c.inquiry_put }) is.2)
still (Closed number told ∷ rest) l k c is =
    let same = closer_same number _ l k c.carries (within rest (record l { taken = l.taken + 1 }) is.2).closers is.0 is.1 in
    (same.0, same.1, still rest (record l { taken = l.taken + 1 }) (record k { taken = k.taken + 1 }) (record { carries = on_closer l k c.carries; posted = c.posted; closers = c.closers; inquiry_put = c.inquiry_put }) is.2)
still (Outcome_told commit ∷ rest) l k c is = (told_still commit l k c.carries is.0, still rest l k c is.1)
still (Taken_in further ∷ rest) l k c is = (taken_still further l k c.carries is.0, still rest l k c is.1)
still (Inquired ∷ rest) l k c is =
    still rest (record l { inquiry_taken = l.inquiry_taken + 1 }) (record k { inquiry_taken = k.inquiry_taken + 1 }) (record { carries = on_inquiry l k c.carries; posted = c.posted; closers = c.closers; inquiry_put = c.inquiry_put }) is

-- ---- what is put comes behind
abbrev pub ended : Link → Link → Link
ended l k = record k { received = l.posted; taken = l.closers; inquiry_taken = l.inquiry_put }

-- where no inquiries go, it is of no account how many were taken
unasked : (more : List Said) (k : Link) (a b : ℕ) → k.to_home ≡ false → IsLink (record k { inquiry_taken = a }) more → IsLink (record k { inquiry_taken = b }) more
unasked [] k a b off is = record { requests = is.requests; closers = is.closers; inquiries = λ home. absurd (cc (home, off)); all_requests = is.all_requests; all_closers = is.all_closers; all_inquiries = λ _ home. absurd (cc (home, off)) }
unasked (Requested number server ∷ rest) k a b off is = (is.0, is.1, unasked rest (record k { received = k.received + 1 }) a b off is.2)
unasked (Closed number told ∷ rest) k a b off is = (is.0, is.1, unasked rest (record k { taken = k.taken + 1 }) a b off is.2)
unasked (Outcome_told commit ∷ rest) k a b off is = (is.0, unasked rest k a b off is.1)
unasked (Taken_in further ∷ rest) k a b off is = (is.0, unasked rest k a b off is.1)
unasked (Inquired ∷ rest) k a b off is = unasked rest k (a + 1) (b + 1) off is

at_end : (more : List Said) (l k : Link) → Carries l k → l.live ≡ true → IsEmpty l → IsLink (ended l k) more → IsLink k more
at_end more l k c live is next = by k.to_home refl (subst (λ (x : Link). IsLink x more) (same k (c.received ∙ is.all_requests live) (c.taken ∙ is.all_closers live)) next)
  where
    same : (k : Link) → k.received ≡ l.posted → k.taken ≡ l.closers → ended l k ≡ record k { inquiry_taken = l.inquiry_put }
    same k a b = rw (sym a, sym b) refl

    by : (b : Bool) → k.to_home ≡ b → IsLink (record k { inquiry_taken = l.inquiry_put }) more → IsLink k more
    by true home next = subst (λ (n : ℕ). IsLink (record k { inquiry_taken = n }) more) (sym (c.inquiry_taken ∙ is.all_inquiries live (sym c.to_home ∙ home))) next
    by false off next = unasked more k l.inquiry_put k.inquiry_taken off next

pub behind : (saids more : List Said) (l k : Link) → Carries l k → l.live ≡ true → IsLink l saids → IsLink (ended l k) more → IsLink k (saids ++ more)
behind [] more l k c live is next = at_end more l k c live is next
behind (Requested number server ∷ rest) more l k c live is next =
    let same = request_same number server l k c (within rest (record l { received = l.received + 1 }) is.2).requests (is.0, is.1) in
    (same.0, same.1, behind rest more (record l { received = l.received + 1 }) (record k { received = k.received + 1 }) (on_request l k c) live is.2 next)
behind (Closed number told ∷ rest) more l k c live is next =
    let same = closer_same number _ l k c (within rest (record l { taken = l.taken + 1 }) is.2).closers is.0 is.1 in
    (same.0, same.1, behind rest more (record l { taken = l.taken + 1 }) (record k { taken = k.taken + 1 }) (on_closer l k c) live is.2 next)
behind (Outcome_told commit ∷ rest) more l k c live is next = (told_still commit l k c is.0, behind rest more l k c live is.1 next)
behind (Taken_in further ∷ rest) more l k c live is next = (taken_still further l k c is.0, behind rest more l k c live is.1 next)
behind (Inquired ∷ rest) more l k c live is next =
    behind rest more (record l { inquiry_taken = l.inquiry_taken + 1 }) (record k { inquiry_taken = k.inquiry_taken + 1 }) (on_inquiry l k c) live is next

-- ---- one event after the other

pub carries_itself : (l : Link) → Carries l l
carries_itself l = record {
  live = λ is. is;
  received = refl;
  taken = refl;
  to_home = refl;
  inquiry_taken = refl;
  server = λ n _. refl;
  closer = λ n _. refl;
  closer_set = λ n m _. refl;
  tell_commit = λ is. is;
  tell_abort = λ is. is;
  ack_put = λ is. is;
  aborted = λ is. is;
  named = λ n is. is;
}

pub stays_on : (l k j : Link) → Stays l k → Stays k j → Stays l j
stays_on l k j first second = record {
  carries = record {
    live = λ is. first.carries.live (second.carries.live is);
    received = second.carries.received ∙ first.carries.received;
    taken = second.carries.taken ∙ first.carries.taken;
    to_home = second.carries.to_home ∙ first.carries.to_home;
    inquiry_taken = second.carries.inquiry_taken ∙ first.carries.inquiry_taken;
    server = λ n below. second.carries.server n (rw first.posted below) ∙ first.carries.server n below;
    closer = λ n below. second.carries.closer n (rw first.closers below) ∙ first.carries.closer n below;
    closer_set = λ n m below. second.carries.closer_set n m (rw first.closers below) ∙ first.carries.closer_set n m below;
    tell_commit = λ is. second.carries.tell_commit (first.carries.tell_commit is);
    tell_abort = λ is. second.carries.tell_abort (first.carries.tell_abort is);
    ack_put = λ is. second.carries.ack_put (first.carries.ack_put is);
    aborted = λ is. second.carries.aborted (first.carries.aborted is);
    named = λ n is. second.carries.named n (first.carries.named n is);
  };
  posted = second.posted ∙ first.posted;
  closers = second.closers ∙ first.closers;
  inquiry_put = λ home. second.inquiry_put (first.carries.to_home ∙ home) ∙ first.inquiry_put home;
}
