-- Rounds over all sites, one after the other, and how they end.
use Rattle.std.proofs.Common.{◌≡◌, ◌∙◌, ◌≤◌, ◌<◌, ◌+◌, ◌-◌, ◌*◌, ◌%◌, ap, refl, subst, sym, inl, inr, ℕ, zero, suc, Bool, List, [], ◌∷◌, ◌++◌, length, arith}
use Rattle.std.proofs.lemmas.List.{length-append}
use Rattle.std.proofs.lemmas.List.Edits.{length-swap}
use Rattle.std.proofs.lemmas.Nat.{mul-le}
use Rattle.std.specs.List.{swap}
use Rattle.qs_base.specs.declared.identifiers.NodeNo.{NodeNo}
use Rattle.qs_book_script.specs.declared.script.Script.{Script}
use Rattle.qs_disk.specs.Disk.{DiskState}
use Rattle.qs_world_plans.specs.Order.{drawn_order, places_below, seeded, shuffled}
use Rattle.qs_world_rounds.specs.declared.rounds.Ending.{Ending}
use Rattle.qs_world_sites.proofs.Staying.{each_on}
use Rattle.qs_world_sites.proofs.Visiting.{late_on, risen_on, rises_on}
use Rattle.qs_world_sites.specs.Breaks.{BreaksRound, RefusesRound}
use Rattle.qs_world_sites.specs.Endings.{EndsWith, IsCutShort, IsEnding, IsOutOfMemory, IsOver, budget_of}
use Rattle.qs_world_sites.specs.Late.{IsLate, RisesBy}
use Rattle.qs_world_sites.specs.Rounds.{IsRound, Rounds, VisitAll}
use Rattle.qs_world_sites.specs.Sites.{Each, GoesOn, SitesValue, count_of}
use Rattle.rand_pcg.specs.Lcg.{Lcg}
use Rattle.rand_pcg.specs.Pcg.{pcg32}

-- ---- an order has each actor's place once

places_long : (n : ℕ) → length (places_below n) ≡ n
places_long zero = refl
places_long (suc n) =
    let all : length (places_below n ++ n ∷ []) ≡ length (places_below n) + 1 = length-append (places_below n) (n ∷ []) in
    omega (arith, all, places_long n)

shuffled_long : (i : ℕ) (rng : Lcg) (places : List ℕ) → length (shuffled i rng places).0 ≡ length places
unfolding shuffled
shuffled_long zero rng places = refl
shuffled_long (suc i) rng places =
    let other : ℕ = (pcg32 rng).0 % (suc i + 1) in
    shuffled_long i (pcg32 rng).1 (swap places (suc i) other) ∙ length-swap places (suc i) other

pub drawn_long : (n : ℕ) (rng : Lcg) (order : List ℕ) → order ≡ (drawn_order n rng).0 → length order ≡ n
drawn_long n rng order is = ap (λ (l : List ℕ). length l) is ∙ (shuffled_long (n - 1) rng (places_below n) ∙ places_long n)

module _ {D : Type 0} (told : Type 0) (state : D → DiskState) (own size : D → ℕ) where
  -- ---- whom the places mean stays

  visits_turns : (places : List ℕ) (old new : SitesValue D) (did : Bool) → VisitAll told state own size places old new did → new.turns ≡ old.turns
  visits_turns [] old new did all = ap (λ (a : SitesValue D). a.turns) all.0
  visits_turns (place ∷ places) old new did (mid, (first, (more, (visit, (rest, is))))) = visits_turns places mid new more rest ∙ visit.1

  pub round_turns : (order : List ℕ) (old new : SitesValue D) (quiet : Bool) → IsRound told state own size order old new quiet → new.turns ≡ old.turns
  round_turns order old new quiet round = visits_turns order round.carried new round.did round.visits ∙ round.turns

  -- ---- their end

  ends_with : (rng : Lcg) (n : ℕ) (a b c : SitesValue D) (later : Lcg) (quiet : Bool) → Rounds told state own size rng n a b later
      → IsRound told state own size (drawn_order (count_of b) later).0 b c quiet → EndsWith told state own size rng (n + 1) a c quiet
  ends_with rng n a b c later quiet all last =
      let before_is : n + 1 - 1 ≡ n = omega arith in
      record {
        before = b;
        drawn = later;
        some = omega arith;
        earlier = subst (λ (k : ℕ). Rounds told state own size rng k a b later) (sym before_is) all;
        last = last;
      }

  -- they ended with the last one
  pub ending_with : (script : Script) (seed n : ℕ) (a b c : SitesValue D) (later : Lcg) (quiet : Bool) (ending : Ending)
      → Rounds told state own size (seeded seed) n a b later → IsRound told state own size (drawn_order (count_of b) later).0 b c quiet
      → IsOver script (n + 1) quiet c ending → n + 1 ≤ budget_of script c
      → IsEnding told state own size script seed a c ending
  ending_with script seed n a b c later quiet ending all last over within = record {
    quiet = quiet;
    ends = subst (λ (k : ℕ). EndsWith told state own size (seeded seed) k a c quiet) (sym over.rounds_is) (ends_with (seeded seed) n a b c later quiet all last);
    settled = over.settled;
    over = elim over.over [ inl still ↦ inl still | inr spent ↦ inr (let is = over.rounds_is in omega arith) ];
    within = let is = over.rounds_is in omega arith;
  }

  -- one of them was cut short
  pub cut_at : (seed n : ℕ) (node : NodeNo) (a b c : SitesValue D) (later : Lcg) → Rounds told state own size (seeded seed) n a b later → Each GoesOn a.sites b.sites
      → BreaksRound told state own size (drawn_order (count_of b) later).0 node b c → IsCutShort told state own size seed node a c
  cut_at seed n node a b c later all stays broken = record {
    rounds = n;
    before = b;
    drawn = later;
    earlier = all;
    broken = broken;
    rose = risen_on own node a.sites b.sites c.sites stays broken.rose;
  }

  -- in one of them memory was refused
  pub refused_at : (seed n : ℕ) (a b c : SitesValue D) (later : Lcg) → Rounds told state own size (seeded seed) n a b later
      → RefusesRound told state own size (drawn_order (count_of b) later).0 b c → IsOutOfMemory told state own size seed a c
  refused_at seed n a b c later all refused = record { rounds = n; before = b; drawn = later; earlier = all; refused = refused }

-- ---- how often nodes are visited

module _ {D : Type 0} where
  -- one round more
  pub rises_more : (n count : ℕ) (a b c : SitesValue D) → b.turns ≡ a.turns → count ≡ count_of a → Each (RisesBy (n * count)) a.sites b.sites → Each (RisesBy (count_of b)) b.sites c.sites
      → Each (RisesBy ((n + 1) * count)) a.sites c.sites
  rises_more n count a b c turns is before last = subst (λ (k : ℕ). Each (RisesBy k) a.sites c.sites) all
      (each_on (RisesBy (n * count)) (RisesBy (count_of b)) (RisesBy (n * count + count_of b)) (rises_on (n * count) (count_of b)) a.sites b.sites c.sites before last)
    where
      all : n * count + count_of b ≡ (n + 1) * count
      all = let same : count_of b ≡ count = ap (λ l. length l) turns ∙ sym is in omega (arith, same)

  -- in a round behind others
  pub late_after : (n most count : ℕ) (a b : SitesValue D) → b.turns ≡ a.turns → count ≡ count_of a → Each (RisesBy (n * count)) a.sites b.sites → n < most → IsLate (count_of b) b.sites
      → IsLate (count * most) a.sites
  late_after n most count a b turns is before few late = late_on (n * count) (count_of b) (count * most) a.sites b.sites before within late
    where
      within : n * count + count_of b ≤ count * most
      within =
          let same : count_of b ≡ count = ap (λ l. length l) turns ∙ sym is in
          let whole : (n + 1) * count ≤ most * count = mul-le (n + 1) count most count (omega arith) (omega arith) in
          omega (arith, same, whole)
