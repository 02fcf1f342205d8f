-- An act: which source it asks, what it is made of, and that it only adds to the journal.
use Rattle.std.proofs.Common.{◌≡◌, ◌≢◌, ◌∙◌, ◌⊎◌, ◌≤◌, ◌<◌, ◌+◌, ◌-◌, ◌%◌, ap, subst, sym, refl, inl, inr, ℕ, zero, suc, Bool, true, false, List, [], ◌∷◌, arith, drop, get_or, length, take}
use Rattle.std.specs.List.{flat_map}
use Rattle.std.specs.Prelude.{◌==◌, ◌&&◌, not, Option, Some, None, IfSome, Result, Ok, Err, OnErr, if◌then◌else◌, is_none, is_some, nat_lt}
use Rattle.std.proofs.lemmas.Bool.Decides.{nat_tests}
use Rattle.qs_disk.specs.Disk.{DiskState}
use Rattle.qs_link.specs.declared.ends.NodeEnds.{NodeEnds}
use Rattle.qs_packet.specs.declared.packet.Packet.{Packet}
use Rattle.qs_cell_peers.specs.Links.{AreEmptied, HasPut, HasPutSome, IsSameNode, KeepsEnds, LinksValue, Pulls, Pushes, SameInto, SameOut, carried_from, into_of, is_peer_of, puts_of}
use Rattle.qs_cell.specs.Acts.{Acts, BreaksAct, BreaksAsked, BreaksIf, MakesAsked, MakesIf, PutsSome, acts_in, asked_of, first_around, first_from, has_event, in_act_as, otherwise, own_source, source_count}
use Rattle.qs_cell.specs.Hearing.{BreaksHearing, Hears, Post}
use Rattle.qs_cell.specs.Starts.{CellValue, post_of, trace_of}
use Rattle.qs_cell.specs.State.{IsSeenAs, cause_of, rounds_of}
use Rattle.qs_cell.specs.Visits.{Grows, Seat, TurnsAll, TurnsSome, due, entries_in, sources_of}
use Rattle.qs_cell.specs.WholeVisits.{put_since, steps_in}
use Rattle.qs_cell.specs.declared.cell.EventSource.{EventSource}
use Rattle.qs_cell.specs.declared.cell.EventSource.TheVariants as sources
use Rattle.qs_cell.specs.declared.state.CellState.{CellState}
use Rattle.qs_cell.proofs.Growing.{all_grow, entries_same, grows_on, seen_same, some_grow}
use Rattle.qs_cell.proofs.HearingTurns.{peer_by}
use Rattle.qs_cell.proofs.Visiting.{broken_grows, turn_grows}
use Rattle.qs_cell.proofs.VisitRounds.{hears_rounds, seen_rounds, turns_rounds}

-- ---- which source is asked

-- it has an event, and is one of them
pub record IsAsked (has : ℕ → Bool) (most place : ℕ) : Type 0 where
  pub has_one : has place ≡ true
  pub within : place < most

one : {A : Type 0} {x y : A} → Some x ≡ Some y → x ≡ y
one is = cc is

first_is : (has : ℕ → Bool) (at count place : ℕ) → first_from has at count ≡ Some place → IsAsked has (at + count) place
first_is has at zero place is = absurd (cc is)
first_is has at (suc count) place is = by (has at) refl (first_is has (at + 1) count place)
  where
    later : IsAsked has ((at + 1) + count) place → IsAsked has (at + suc count) place
    later it = record { has_one = it.has_one; within = omega (arith, it.within) }

    by : (b : Bool) → has at ≡ b → (first_from has (at + 1) count ≡ Some place → IsAsked has ((at + 1) + count) place) → IsAsked has (at + suc count) place
    by true here rest =
        let same : at ≡ place = one (sym (ap (λ (c : Bool). if c then Some at else first_from has (at + 1) count) here) ∙ is) in
        record { has_one = subst (λ (p : ℕ). has p ≡ true) same here; within = omega (arith, same) }
    by false here rest = later (rest (sym (ap (λ (c : Bool). if c then Some at else first_from has (at + 1) count) here) ∙ is))

around_is : (has : ℕ → Bool) (start count place : ℕ) → start ≤ count → first_around has start count ≡ Some place → IsAsked has count place
around_is has start count place few is = by (first_from has start (count - start)) refl
  where
    by : (o : Option ℕ) → first_from has start (count - start) ≡ o → IsAsked has count place
    by (Some p) first =
        let same : p ≡ place = one (sym (ap (λ (o : Option ℕ). otherwise o (first_from has 0 start)) first) ∙ is) in
        let it = first_is has start (count - start) p first in
        record { has_one = subst (λ (q : ℕ). has q ≡ true) same it.has_one; within = omega (arith, same, it.within, few) }
    by None first =
        let it = first_is has 0 start place (sym (ap (λ (o : Option ℕ). otherwise o (first_from has 0 start)) first) ∙ is) in
        record { has_one = it.has_one; within = omega (arith, it.within, few) }

pub asked_is : {D : Type 0} (post : Post D) (place : ℕ) → asked_of post ≡ Some place → IsAsked (has_event post) (source_count post.links post.seat.ends) place
asked_is post place is =
    let some : source_count post.links post.seat.ends ≢ 0 = λ none. omega (arith, none) in
    around_is (has_event post) (acts_in post.seat.node % source_count post.links post.seat.ends) (source_count post.links post.seat.ends) place (omega (arith, some)) is

-- the source of its own at a place behind the nodes
own_taken : (xs : List EventSource) (k : ℕ) (d : EventSource) → k < length xs → take 1 (drop k xs) ≡ get_or xs k d ∷ []
own_taken [] k d less = absurd (omega (arith, less))
own_taken (x ∷ xs) zero d less = refl
own_taken (x ∷ xs) (suc k) d less = own_taken xs k d (omega (arith, less))

sources_long : (ends : List NodeEnds) → length (sources_of ends) ≡ length ends + 2
sources_long [] = refl
sources_long (end ∷ ends) = let rest = sources_long ends in omega (arith, rest)

both_true : (a b : Bool) → (a && b) ≡ true → (a ≡ true) × (b ≡ true)
both_true true b is = (refl, is)
both_true false b is = absurd (let no : false ≡ true = is in cc no)

-- a place of another node: the node is up, and packets of that one were carried
peer_has : {D : Type 0} (post : Post D) (place : ℕ) → nat_lt place post.links.size ≡ true → has_event post place ≡ true
    → (is_none (cause_of post.seat.node) ≡ true) × (is_peer_of post.links place ≡ true)
peer_has post place low has =
    let carried : Bool = nat_lt 0 (carried_from post.links place) in
    let own : Bool = is_some (due (own_source post.seat.ends (place - post.links.size)) post.seat.node post.seat.ends) in
    let is : (is_none (cause_of post.seat.node) && carried) ≡ true = subst (λ (b : Bool). (if b then is_none (cause_of post.seat.node) && carried else own) ≡ true) low has in
    let both = both_true (is_none (cause_of post.seat.node)) carried is in
    let some : 0 < carried_from post.links place = let it = both.1 in grind (arith, nat_tests, it) in
    (both.0, peer_by post.links place (carried_from post.links place) 0 refl some)

pub has_peer : {D : Type 0} (post : Post D) (place : ℕ) → place < post.links.size → has_event post place ≡ true → is_peer_of post.links place ≡ true
has_peer post place low has = (peer_has post place (grind (arith, nat_tests, low)) has).1

-- ---- the ends of its links

-- a packet was taken, and nothing was put or popped
pub taken_keeps : (m : ℕ) (old new : LinksValue) → IsSameNode old new → SameOut (λ k. true) old new → SameInto (λ k. not (k == m)) old new → (into_of new m).ring ≡ (into_of old m).ring → KeepsEnds old new
taken_keeps m old new same out others ring = record { same = same; out = out; ring = λ k peer. by k peer (k == m) refl }
  where
    number : (x y : ℕ) → (x == y) ≡ true → x ≡ y
    number x y equal = grind (arith, nat_tests, equal)

    by : (k : ℕ) → is_peer_of old k ≡ true → (b : Bool) → (k == m) ≡ b → (into_of new k).ring ≡ (into_of old k).ring
    by k peer true is = subst (λ (j : ℕ). (into_of new j).ring ≡ (into_of old j).ring) (sym (number k m is)) ring
    by k peer false is = ap (λ d. d.ring) (others k peer (ap (λ (b : Bool). not b) is))

pub keeps_as : (old new : LinksValue) → new ≡ old → KeepsEnds old new
keeps_as old new is = subst (KeepsEnds old) (sym is) (record { same = record { size = refl; me = refl }; out = λ m peer all. refl; ring = λ m peer. refl })

-- ---- what a law of all sources may go by

module _ {D : Type 0} (told : Type 0) (state : D → DiskState) (own size : D → ℕ) where
  -- the next packet of another node
  abbrev pub HearsOne : Post D → Post D → Type 0
  HearsOne old new = (m : ℕ) × ((is_peer_of old.links m ≡ true) × Hears told state own size m old new)

  -- the turn of one of its own sources but the clock, which is the last: a client's, or the queues'
  abbrev pub TurnsOne : Post D → Post D → Type 0
  TurnsOne old new =
      (k : ℕ) × ((k < length old.seat.ends + 1) × (TurnsAll told state own size (take 1 (drop k (sources_of old.seat.ends))) old.seat new.seat × (new.links ≡ old.links)))

  -- one of these, or none
  abbrev pub MakesOne : Post D → Post D → Type 0
  MakesOne old new = (new ≡ old) ⊎ (HearsOne old new ⊎ TurnsOne old new)

  -- memory was refused within one of them; nothing went to a link
  abbrev pub BreaksOne : Post D → Post D → Type 0
  BreaksOne old new =
      ((m : ℕ) × ((is_peer_of old.links m ≡ true) × BreaksHearing told state own size m old new))
      ⊎ ((k : ℕ) × ((k < length old.seat.ends + 1) × TurnsSome told state own size (take 1 (drop k (sources_of old.seat.ends))) old.seat new.seat))

  module _ (old new : Post D) (place : ℕ) (asked : IsAsked (has_event old) (source_count old.links old.seat.ends) place) where
    abbrev k : ℕ
    k = place - old.links.size

    own_low : nat_lt place old.links.size ≡ false → k < length old.seat.ends + 1
    own_low high = grind (arith, nat_tests, high, asked.within)

    own_is : nat_lt place old.links.size ≡ false → own_source old.seat.ends k ∷ [] ≡ take 1 (drop k (sources_of old.seat.ends))
    own_is high = sym (own_taken (sources_of old.seat.ends) k sources.Clock (let low = own_low high in let long = sources_long old.seat.ends in omega (arith, low, long)))

    makes_if : (b : Bool) → nat_lt place old.links.size ≡ b → MakesIf b told state own size place old new → MakesOne old new
    makes_if true low makes = inr (inl (place, ((peer_has old place low asked.has_one).1, makes)))
    makes_if false high makes = inr (inr (
      k,
      (
        own_low high,
        (
          subst (λ (l : List EventSource). TurnsAll told state own size l old.seat new.seat) (own_is high) (new.seat, (makes.0, refl)),
          makes.1,
        ),
      ),
    ))

    breaks_if : (b : Bool) → nat_lt place old.links.size ≡ b → BreaksIf b told state own size place old new → BreaksOne old new × KeepsEnds old.links new.links
    breaks_if true low breaks = (inl (place, ((peer_has old place low asked.has_one).1, breaks.0)), breaks.1)
    breaks_if false high breaks = (
      inr (k, (own_low high, subst (λ (l : List EventSource). TurnsSome told state own size l old.seat new.seat) (own_is high) (inl breaks.0))),
      keeps_as old.links new.links breaks.1,
    )

  pub one_of : (old new : Post D) → MakesAsked (asked_of old) told state own size old new → MakesOne old new
  one_of old new makes = by (asked_of old) refl makes
    where
      by : (asked : Option ℕ) → asked_of old ≡ asked → MakesAsked asked told state own size old new → MakesOne old new
      by None is same = inl same
      by (Some place) is made = makes_if old new place (asked_is old place is) (nat_lt place old.links.size) refl made

  pub breaks_one : (old new : Post D) → BreaksAsked (asked_of old) told state own size old new → BreaksOne old new × KeepsEnds old.links new.links
  breaks_one old new breaks = by (asked_of old) refl breaks
    where
      by : (asked : Option ℕ) → asked_of old ≡ asked → BreaksAsked asked told state own size old new → BreaksOne old new × KeepsEnds old.links new.links
      by None is none = absurd none
      by (Some place) is broken = breaks_if old new place (asked_is old place is) (nat_lt place old.links.size) refl broken

  -- ---- it only adds to the journal, and is no round

  made_grows : (old new : Post D) → MakesOne old new → Grows (entries_in old.seat.node) (entries_in new.seat.node)
  made_grows old new (inl same) = entries_same old.seat.node new.seat.node (ap (λ (p : Post D). entries_in p.seat.node) same)
  made_grows old new (inr (inl (m, (peer, hears)))) = turn_grows told state own size m old new hears
  made_grows old new (inr (inr (k, (low, (turns, same))))) = all_grow told state own size (take 1 (drop k (sources_of old.seat.ends))) old.seat new.seat turns

  one_breaks : (old new : Post D) → BreaksOne old new → Grows (entries_in old.seat.node) (entries_in new.seat.node)
  one_breaks old new (inl (m, (peer, breaks))) = broken_grows told state own size m old new breaks
  one_breaks old new (inr (k, (low, some))) = some_grow told state own size (take 1 (drop k (sources_of old.seat.ends))) old.seat new.seat some

  pub act_grows : (old new : Post D) → Acts told state own size old new → Grows (entries_in old.seat.node) (entries_in new.seat.node)
  act_grows old new a = subst (λ (s : Seat D). Grows (entries_in old.seat.node) (entries_in s.node)) (sym a.seat)
      (grows_on (entries_in old.seat.node) (entries_in a.begun.seat.node) (entries_in a.made.seat.node)
      (entries_same old.seat.node a.begun.seat.node (seen_same in_act_as old.seat.node a.begun.seat.node (λ s. refl) a.act)) (made_grows a.begun a.made (one_of a.begun a.made a.makes)))

  pub broken_act_grows : (old new : Post D) → BreaksAct told state own size old new → Grows (entries_in old.seat.node) (entries_in new.seat.node)
  broken_act_grows old new b = grows_on (entries_in old.seat.node) (entries_in b.begun.seat.node) (entries_in new.seat.node)
      (entries_same old.seat.node b.begun.seat.node (seen_same in_act_as old.seat.node b.begun.seat.node (λ s. refl) b.act)) (by b.within)
    where
      by : (new ≡ b.begun) ⊎ (BreaksAsked (asked_of b.begun) told state own size b.begun new ⊎ PutsSome told state own size old b.begun new) → Grows (entries_in b.begun.seat.node) (entries_in new.seat.node)
      by (inl same) = entries_same b.begun.seat.node new.seat.node (ap (λ (p : Post D). entries_in p.seat.node) same)
      by (inr (inl breaks)) = one_breaks b.begun new (breaks_one b.begun new breaks).0
      by (inr (inr some)) = subst (λ (s : Seat D). Grows (entries_in b.begun.seat.node) (entries_in s.node)) (sym some.seat) (made_grows b.begun some.made (one_of b.begun some.made some.makes))

  made_rounds : (old new : Post D) → MakesOne old new → rounds_of new.seat.node ≡ rounds_of old.seat.node
  made_rounds old new (inl same) = ap (λ (p : Post D). rounds_of p.seat.node) same
  made_rounds old new (inr (inl (m, (peer, hears)))) = hears_rounds told state own size m old new hears
  made_rounds old new (inr (inr (k, (low, (turns, same))))) = turns_rounds told state own size (take 1 (drop k (sources_of old.seat.ends))) old.seat new.seat turns

  pub act_rounds : (old new : Post D) → Acts told state own size old new → rounds_of new.seat.node ≡ rounds_of old.seat.node
  act_rounds old new a = ap (λ (s : Seat D). rounds_of s.node) a.seat
      ∙ (made_rounds a.begun a.made (one_of a.begun a.made a.makes) ∙ seen_rounds in_act_as old.seat.node a.begun.seat.node a.act)

  -- ---- what it is made of

  module _ (old begun pulled : CellValue D) (act : IsSeenAs in_act_as old.seat.node begun.seat.node) (ends : begun.seat.ends ≡ old.seat.ends) (links : begun.links ≡ old.links) (pulls : Pulls begun.links pulled.links)
      (seat : pulled.seat ≡ begun.seat) where
    act_is : IsSeenAs in_act_as old.seat.node pulled.seat.node
    act_is = subst (λ (s : Seat D). IsSeenAs in_act_as old.seat.node s.node) (sym seat) act

    ends_are : pulled.seat.ends ≡ old.seat.ends
    ends_are = ap (λ (s : Seat D). s.ends) seat ∙ ends

    pulls_are : Pulls old.links pulled.links
    pulls_are = subst (λ (l : LinksValue). Pulls l pulled.links) links pulls

    pub breaks_pulled : BreaksAct told state own size (post_of old) (post_of pulled)
    breaks_pulled = record { begun = post_of pulled; act = act_is; ends = ends_are; pulls = pulls_are; within = inl refl }

    pub breaks_made : (new : CellValue D) → BreaksAsked (asked_of (post_of pulled)) told state own size (post_of pulled) (post_of new) → BreaksAct told state own size (post_of old) (post_of new)
    breaks_made new breaks = record { begun = post_of pulled; act = act_is; ends = ends_are; pulls = pulls_are; within = inr (inl breaks) }

    module _ (emptied : AreEmptied pulled.links) (made : CellValue D) (makes : MakesAsked (asked_of (post_of pulled)) told state own size (post_of pulled) (post_of made)) (before : ℕ) (at : before ≡ length (trace_of old)) (put : CellValue D)
        (same : put.seat ≡ made.seat) where
      same_put : flat_map puts_of (drop before (trace_of made)) ≡ put_since (steps_in old.seat.node) (steps_in made.seat.node)
      same_put = ap (λ (n : ℕ). flat_map puts_of (drop n (trace_of made))) at

      pub breaks_put : HasPutSome (flat_map puts_of (drop before (trace_of made))) made.links put.links → BreaksAct told state own size (post_of old) (post_of put)
      breaks_put some = record {
        begun = post_of pulled;
        act = act_is;
        ends = ends_are;
        pulls = pulls_are;
        within = inr (inr (record { made = post_of made; makes = makes; puts = subst (λ (l : List Packet). HasPutSome l made.links put.links) same_put some; seat = same }));
      }

      pub acts_all : HasPut (flat_map puts_of (drop before (trace_of made))) made.links put.links → (new : CellValue D) → Pushes put.links new.links → new.seat ≡ put.seat → Acts told state own size (post_of old) (post_of new)
      acts_all all new pushes still = record {
        begun = post_of pulled;
        act = act_is;
        ends = ends_are;
        pulls = pulls_are;
        emptied = emptied;
        made = post_of made;
        makes = makes;
        put = put.links;
        puts = subst (λ (l : List Packet). HasPut l made.links put.links) same_put all;
        seat = still ∙ same;
        pushes = pushes;
      }

-- ---- what the code looks for

pub on_err_map : {T E A B : Type 0} (result : Result T E) → OnErr result A → (A → B) → OnErr result B
on_err_map (Ok t) a f = a
on_err_map (Err e) a f = f a

first_unfolds : (has : ℕ → Bool) (at count : ℕ) → count ≢ 0 → first_from has at count ≡ (if has at then Some at else first_from has (at + 1) (count - 1))
first_unfolds has at zero some = absurd (some refl)
first_unfolds has at (suc count) some = ap (λ (n : ℕ). if has at then Some at else first_from has (at + 1) n) (omega arith)

pub first_none : (has : ℕ → Bool) (at end : ℕ) → at ≡ end → None ≡ first_from has at (end - at)
first_none has at end is = ap (λ (n : ℕ). first_from has at n) (let none : 0 ≡ end - at = omega (arith, is) in none)

pub first_here : (has : ℕ → Bool) (at end : ℕ) → at < end → has at ≡ true → Some at ≡ first_from has at (end - at)
first_here has at end less here = sym (first_unfolds has at (end - at) (λ none. omega (arith, less, none)) ∙ ap (λ (b : Bool). if b then Some at else first_from has (at + 1) (end - at - 1)) here)

pub first_later : (has : ℕ → Bool) (at end : ℕ) → at < end → has at ≡ false → first_from has (at + 1) (end - (at + 1)) ≡ first_from has at (end - at)
first_later has at end less not_here = ap (λ (n : ℕ). first_from has (at + 1) n) (let same : end - (at + 1) ≡ end - at - 1 = omega arith in same)
    ∙ sym (first_unfolds has at (end - at) (λ none. omega (arith, less, none)) ∙ ap (λ (b : Bool). if b then Some at else first_from has (at + 1) (end - at - 1)) not_here)
