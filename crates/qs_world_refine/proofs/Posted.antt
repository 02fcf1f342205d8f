-- What the messages of a step make of the channels: each goes behind what its node has for the incarnation that it knows, or waits.
use Rattle.qs_world_refine.proofs.Words.{◌≡◌, ℕ, ◌==◌, ◌&&◌, not, Bool, true, false, List, [], ◌∷◌, ◌++◌, map, refl, sym, ap, ◌∙◌, arith, if◌then◌else◌, filter, eqb-true, and_right, nat_tests, Channels, Sending, post_all, Parcel, message_of}
use Rattle.qs_session_channels.specs.Channels as channel
use Rattle.qs_session_channels.specs.Channels.{Wait, Post}
use Rattle.qs_world.specs.Posting.{post_next}
use Rattle.qs_world_refine.specs.Shows.{sent_to}
use Rattle.qs_world_refine.proofs.SaysOn.{append_three}
use Rattle.qs_world_refine.proofs.Sending.{append_nil}

module _ (n stamp : ℕ) where
  abbrev parcel : Sending → Parcel
  parcel sending = record { stamp = stamp; message = sending.message }

  -- what goes to node q
  abbrev pub parcels : ℕ → List Sending → List Parcel
  parcels q sendings = map parcel (filter (λ (sending : Sending). sending.to.0 == q) sendings)

  pub parcels_say : (q : ℕ) (sendings : List Sending) → map message_of (parcels q sendings) ≡ sent_to q sendings
  parcels_say q [] = refl
  parcels_say q (s ∷ sendings) = by (s.to.0 == q) (parcels_say q sendings)
    where
      by : (b : Bool) → map message_of (parcels q sendings) ≡ sent_to q sendings
          → map message_of (map parcel (if b then s ∷ filter (λ (sending : Sending). sending.to.0 == q) sendings else filter (λ (sending : Sending). sending.to.0 == q) sendings))
          ≡ map (λ (sending : Sending). sending.message) (if b then s ∷ filter (λ (sending : Sending). sending.to.0 == q) sendings else filter (λ (sending : Sending). sending.to.0 == q) sendings)
      by true more = ap (λ (l : List _). s.message ∷ l) more
      by false more = more

  -- ---- one message

  module _ (s : Sending) (c : Channels Parcel) where
    abbrev next : Channels Parcel
    next = post_next n stamp c s

    abbrev one : (b : Bool) → Channels Parcel
    one b = channel.moved (if b then Wait n s.to.0 (parcel s) else Post n s.to.0 (parcel s)) c

    inc_one : next.inc ≡ c.inc
    inc_one = by (c.peer n s.to.0 == 0)
      where
        by : (b : Bool) → (one b).inc ≡ c.inc
        by true = refl
        by false = refl

    up_one : next.up ≡ c.up
    up_one = by (c.peer n s.to.0 == 0)
      where
        by : (b : Bool) → (one b).up ≡ c.up
        by true = refl
        by false = refl

    peer_one : next.peer ≡ c.peer
    peer_one = by (c.peer n s.to.0 == 0)
      where
        by : (b : Bool) → (one b).peer ≡ c.peer
        by true = refl
        by false = refl

    handed_one : next.handed ≡ c.handed
    handed_one = by (c.peer n s.to.0 == 0)
      where
        by : (b : Bool) → (one b).handed ≡ c.handed
        by true = refl
        by false = refl

    -- what goes to it, if the message does
    abbrev its : Bool → List Parcel
    its b = if b then parcel s ∷ [] else []

    posted_one : (p q i j : ℕ) → next.posted p q i j ≡ (if (p == n) && ((i == c.inc n) && ((j == c.peer n q) && not (j == 0))) then c.posted p q i j ++ its (s.to.0 == q) else c.posted p q i j)
    posted_one p q i j = by (c.peer n s.to.0 == 0) refl
      where
        nothing : (b : Bool) (l : List Parcel) → (if b then l ++ [] else l) ≡ l
        nothing true l = append_nil l
        nothing false l = refl

        by : (b : Bool) → (c.peer n s.to.0 == 0) ≡ b → (one b).posted p q i j ≡ (if (p == n) && ((i == c.inc n) && ((j == c.peer n q) && not (j == 0))) then c.posted p q i j ++ its (s.to.0 == q) else c.posted p q i j)
        by true unknown = waits (s.to.0 == q) refl
          where
            waits : (e : Bool) → (s.to.0 == q) ≡ e → c.posted p q i j ≡ (if (p == n) && ((i == c.inc n) && ((j == c.peer n q) && not (j == 0))) then c.posted p q i j ++ its e else c.posted p q i j)
            waits false other = sym (nothing ((p == n) && ((i == c.inc n) && ((j == c.peer n q) && not (j == 0)))) (c.posted p q i j))
            waits true same = rw (none (p == n) (i == c.inc n) (j == c.peer n q) (j == 0) refl refl) refl
              where
                none : (a b d e : Bool) → (j == c.peer n q) ≡ d → (j == 0) ≡ e → (a && (b && (d && not e))) ≡ false
                none a b true false known some = absurd (let is_q : s.to.0 ≡ q = eqb-true s.to.0 q same in grind (arith, nat_tests, is_q, unknown, known, some))
                none true true true true known some = refl
                none true true false e known some = refl
                none true false d e known some = refl
                none false b d e known some = refl
        by false known = at (p == n) refl (q == s.to.0) refl
          where
            turned : (q == s.to.0) ≡ true → (s.to.0 == q) ≡ true
            turned is = grind (arith, nat_tests, is)

            off : (q == s.to.0) ≡ false → (s.to.0 == q) ≡ false
            off is = grind (arith, nat_tests, is)

            inner : (p == n) ≡ true → (q == s.to.0) ≡ true → (d : Bool) → (i == c.inc n) ≡ d → (e : Bool) → (j == c.peer n s.to.0) ≡ e
                → (if d then (if e then c.posted n s.to.0 (c.inc n) (c.peer n s.to.0) ++ parcel s ∷ [] else c.posted n s.to.0 i j) else c.posted n s.to.0 i j)
                ≡ (if d && ((j == c.peer n q) && not (j == 0)) then c.posted p q i j ++ its (s.to.0 == q) else c.posted p q i j)
            inner pa qb false id e je = rw (eqb-true p n pa, eqb-true q s.to.0 qb) refl
            inner pa qb true id false je = rw (turned qb, eqb-true p n pa, eqb-true q s.to.0 qb, je) refl
            inner pa qb true id true je =
                let there : (j == 0) ≡ false = grind (arith, nat_tests, je, known) in
                rw (turned qb, eqb-true p n pa, eqb-true q s.to.0 qb, eqb-true i (c.inc n) id, je, there, eqb-true j (c.peer n s.to.0) je) refl

            at : (a : Bool) → (p == n) ≡ a → (b : Bool) → (q == s.to.0) ≡ b
                → (if a then (if b then (λ (k l : ℕ). if k == c.inc n then (if l == c.peer n s.to.0 then c.posted n s.to.0 (c.inc n) (c.peer n s.to.0) ++ parcel s ∷ [] else c.posted n s.to.0 k l) else c.posted n s.to.0 k l) else c.posted p q) else c.posted p q) i j
                ≡ (if a && ((i == c.inc n) && ((j == c.peer n q) && not (j == 0))) then c.posted p q i j ++ its (s.to.0 == q) else c.posted p q i j)
            at false pa b qb = refl
            at true pa false qb = sym (rw (off qb) (nothing ((i == c.inc n) && ((j == c.peer n q) && not (j == 0))) (c.posted p q i j)))
            at true pa true qb = inner pa qb (i == c.inc n) refl (j == c.peer n s.to.0) refl

    waits_one : (p q : ℕ) → next.waits p q ≡ (if (p == n) && (c.peer n q == 0) then c.waits p q ++ its (s.to.0 == q) else c.waits p q)
    waits_one p q = by (c.peer n s.to.0 == 0) refl
      where
        nothing : (b : Bool) (l : List Parcel) → (if b then l ++ [] else l) ≡ l
        nothing true l = append_nil l
        nothing false l = refl

        turned : (q == s.to.0) ≡ true → (s.to.0 == q) ≡ true
        turned is = grind (arith, nat_tests, is)

        off : (q == s.to.0) ≡ false → (s.to.0 == q) ≡ false
        off is = grind (arith, nat_tests, is)

        by : (b : Bool) → (c.peer n s.to.0 == 0) ≡ b → (one b).waits p q ≡ (if (p == n) && (c.peer n q == 0) then c.waits p q ++ its (s.to.0 == q) else c.waits p q)
        by false known = at (s.to.0 == q) refl
          where
            at : (e : Bool) → (s.to.0 == q) ≡ e → c.waits p q ≡ (if (p == n) && (c.peer n q == 0) then c.waits p q ++ its e else c.waits p q)
            at false other = sym (nothing ((p == n) && (c.peer n q == 0)) (c.waits p q))
            at true same = rw (and_right (p == n) (c.peer n q == 0) (rw (sym (eqb-true s.to.0 q same)) known)) refl
        by true unknown = at (p == n) refl (q == s.to.0) refl
          where
            at : (a : Bool) → (p == n) ≡ a → (b : Bool) → (q == s.to.0) ≡ b
                → (if a then (if b then c.waits n s.to.0 ++ parcel s ∷ [] else c.waits p q) else c.waits p q) ≡ (if a && (c.peer n q == 0) then c.waits p q ++ its (s.to.0 == q) else c.waits p q)
            at false pa b qb = refl
            at true pa false qb = sym (rw (off qb) (nothing (c.peer n q == 0) (c.waits p q)))
            at true pa true qb = rw (turned qb, eqb-true p n pa, eqb-true q s.to.0 qb, unknown) refl

  -- ---- all of them

  pub inc_all : (sendings : List Sending) (c : Channels Parcel) → (post_all n stamp sendings c).inc ≡ c.inc
  inc_all [] c = refl
  inc_all (s ∷ sendings) c = inc_all sendings (post_next n stamp c s) ∙ inc_one s c

  pub up_all : (sendings : List Sending) (c : Channels Parcel) → (post_all n stamp sendings c).up ≡ c.up
  up_all [] c = refl
  up_all (s ∷ sendings) c = up_all sendings (post_next n stamp c s) ∙ up_one s c

  pub peer_all : (sendings : List Sending) (c : Channels Parcel) → (post_all n stamp sendings c).peer ≡ c.peer
  peer_all [] c = refl
  peer_all (s ∷ sendings) c = peer_all sendings (post_next n stamp c s) ∙ peer_one s c

  pub handed_all : (sendings : List Sending) (c : Channels Parcel) → (post_all n stamp sendings c).handed ≡ c.handed
  handed_all [] c = refl
  handed_all (s ∷ sendings) c = handed_all sendings (post_next n stamp c s) ∙ handed_one s c

  parcels_more : (q : ℕ) (s : Sending) (sendings : List Sending) → parcels q (s ∷ sendings) ≡ (if s.to.0 == q then parcel s ∷ [] else []) ++ parcels q sendings
  parcels_more q s sendings = by (s.to.0 == q)
    where
      by : (b : Bool) → map parcel (if b then s ∷ filter (λ (sending : Sending). sending.to.0 == q) sendings else filter (λ (sending : Sending). sending.to.0 == q) sendings) ≡ (if b then parcel s ∷ [] else []) ++ parcels q sendings
      by true = refl
      by false = refl

  -- two pieces behind one list
  both : (b : Bool) (l x y z : List Parcel) → z ≡ x ++ y → (if b then (if b then l ++ x else l) ++ y else (if b then l ++ x else l)) ≡ (if b then l ++ z else l)
  both true l x y z is = append_three l x y ∙ ap (λ (t : List Parcel). l ++ t) (sym is)
  both false l x y z is = refl

  pub posted_all : (sendings : List Sending) (c : Channels Parcel) (p q i j : ℕ)
      → (post_all n stamp sendings c).posted p q i j ≡ (if (p == n) && ((i == c.inc n) && ((j == c.peer n q) && not (j == 0))) then c.posted p q i j ++ parcels q sendings else c.posted p q i j)
  posted_all [] c p q i j = sym (nothing ((p == n) && ((i == c.inc n) && ((j == c.peer n q) && not (j == 0)))) (c.posted p q i j))
    where
      nothing : (b : Bool) (l : List Parcel) → (if b then l ++ [] else l) ≡ l
      nothing true l = append_nil l
      nothing false l = refl
  posted_all (s ∷ sendings) c p q i j = rw (inc_one s c, peer_one s c, posted_one s c p q i j) at (posted_all sendings (post_next n stamp c s) p q i j)
      ∙ both ((p == n) && ((i == c.inc n) && ((j == c.peer n q) && not (j == 0)))) (c.posted p q i j) (if s.to.0 == q then parcel s ∷ [] else []) (parcels q sendings) (parcels q (s ∷ sendings)) (parcels_more q s sendings)

  pub waits_all : (sendings : List Sending) (c : Channels Parcel) (p q : ℕ) → (post_all n stamp sendings c).waits p q ≡ (if (p == n) && (c.peer n q == 0) then c.waits p q ++ parcels q sendings else c.waits p q)
  waits_all [] c p q = sym (nothing ((p == n) && (c.peer n q == 0)) (c.waits p q))
    where
      nothing : (b : Bool) (l : List Parcel) → (if b then l ++ [] else l) ≡ l
      nothing true l = append_nil l
      nothing false l = refl
  waits_all (s ∷ sendings) c p q = rw (peer_one s c, waits_one s c p q) at (waits_all sendings (post_next n stamp c s) p q)
      ∙ both ((p == n) && (c.peer n q == 0)) (c.waits p q) (if s.to.0 == q then parcel s ∷ [] else []) (parcels q sendings) (parcels q (s ∷ sendings)) (parcels_more q s sendings)
