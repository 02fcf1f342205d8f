-- Through a whole step each request that stands at another node waits at its issuer's: those of other nodes stood before, and those nodes stay as they were.
use Rattle.qs_world_runs.proofs.Words.{◌≡◌, ◌⊎◌, inl, inr, ℕ, ◌==◌, Bool, true, false, Option, Some, None, refl, sym, ap, subst, ◌∙◌, arith, if◌then◌else◌, eqb-true, nat_tests, Member, Tid, is_some, BookValue, find_transaction, book_after, TransactionValue, standing_request, RequestNo, after_step, effects_of, Event, book_of, Cut, Meet, Rise, Source, Step, Stop, event_of, may_move, moved, step_with, stepped_host, Opening, World, IsDoomed, doom_stays, ShowsAll, IsShown, MakesStep, nodes_in}
use Rattle.qs_world_runs.proofs.Words.{WaitsAt, AreAwaited, AwaitedAt, AwaitedOf, AwaitsOwn, HoldsAwaited, Joined, book_in, entries_in, PlacedOf, PlacesAt, HoldsPlaced, Placed, field_of, WholeFound, some_same}
use Rattle.qs_book_machine.specs.Lawful.{IsLawful}
use Rattle.qs_book_machine.specs.Transaction.{is_open}
use Rattle.qs_node_step.specs.State.{NodeValue}
use Rattle.qs_world_agree.specs.World as machine
use Rattle.qs_world_refine.specs.Begun.{has_begun}
use Rattle.qs_world_runs.specs.Awaiting.{EachOwnAwaited}
use Rattle.qs_world_runs.specs.JoinedLaws.{IsStep, Keeps}
use Rattle.qs_world_runs.proofs.FreshFinds.{fresh_find}
use Rattle.qs_world_runs.proofs.JoinedAs.{joined_as, placed_joined}
use Rattle.qs_world_runs.proofs.JoinedParts.{book_on, lawful_more}
use Rattle.qs_world_runs.proofs.PlacesJoined.{amid, whole_step_holds}
use Rattle.qs_world_runs.proofs.PlacesSteps.{home_is, moved_is, none_before, shown}
use Rattle.qs_world_runs.proofs.StoodElsewhere.{Stands, stood_elsewhere}
use Rattle.qs_world_runs.proofs.WholeFinds.{whole_find}

module _ (P : Opening → World → Type 0) (less : (o : Opening) (world : World) → P o world → AwaitedAt o world) (own : EachOwnAwaited P) (o : Opening) (world : World) (n stamp free : ℕ) (source : Source) (j : Joined P o world) (may : may_move world (Step n stamp free source) ≡ true)
    (event : Event) (comes : event_of world n stamp source ≡ Some event) (lawful : IsLawful (book_in o world) (entries_in world n stamp free event)) where
  abbrev book : BookValue
  book = book_in o world

  abbrev new : World
  new = step_with world n stamp free source (Some event)

  abbrev next : World
  next = moved (Step n stamp free source) world

  jp : Joined PlacesAt o world
  jp = placed_joined o world (joined_as P AwaitedAt o world (less o world) j)

  makes : MakesStep world n stamp source event
  makes = record { may = may; comes = comes }

  next_is : next ≡ new
  next_is = moved_is o world n stamp free source jp may event comes lawful

  book_is : book_in o next ≡ book_after book (entries_in world n stamp free event)
  book_is = ap (book_in o) next_is ∙ book_on o world new (entries_in world n stamp free event) refl

  node_own : nodes_in new n ≡ after_step (world.hosts n).node event free
  node_own = picked (n == n) itself
    where
      itself : (n == n) ≡ true
      itself = grind (arith, nat_tests)

      picked : (b : Bool) → b ≡ true → (if b then stepped_host stamp (after_step (world.hosts n).node event free) (effects_of (world.hosts n).node event free) (world.hosts n) else world.hosts n).node ≡ after_step (world.hosts n).node event free
      picked b is = rw is refl

  node_other : (k : ℕ) → (k == n) ≡ false → nodes_in new k ≡ nodes_in world k
  node_other k far = picked (k == n) far
    where
      picked : (b : Bool) → b ≡ false → (if b then stepped_host stamp (after_step (world.hosts n).node event free) (effects_of (world.hosts n).node event free) (world.hosts n) else world.hosts k).node ≡ (world.hosts k).node
      picked b is = rw is refl

  -- of a machine in which all was so before
  module _ (tid : Tid) (w : machine.World) (shows : ShowsAll tid next w) (before : HoldsPlaced tid book (field_of world) w) (awaited : HoldsAwaited tid book (nodes_in world) w) (after : HoldsPlaced tid (book_in o next) (field_of next) w) where
    -- what stands of another node's
    others : (tx : TransactionValue) → find_transaction (book_in o next) tid ≡ Some tx → is_open tx.cell ≡ true → (k : ℕ) → (k == n) ≡ false → (at : RequestNo) (member : Member) → at.link.from.0 ≡ k → is_some (standing_request tx at member) ≡ true
        → Stands book tid at member
    others tx found undecided k far at member from_k stands = stood_elsewhere n stamp tid at member (ap (λ (a : ℕ). a == n) from_k ∙ far) (effects_of (world.hosts n).node event free).entries book (amid o world jp n stamp free source event makes).inv lawful
        (record { tx = tx; found = subst (λ (b : BookValue). find_transaction b tid ≡ Some tx) book_is found; undecided = undecided; stands = stands })

    other_awaits : (was : TransactionValue) → find_transaction book tid ≡ Some was → AreAwaited tid was (nodes_in world) → (tx : TransactionValue) → find_transaction (book_in o next) tid ≡ Some tx → is_open tx.cell ≡ true → (k : ℕ) → (k == n) ≡ false → AwaitsOwn k tid tx (nodes_in next k)
    other_awaits was had await tx found undecided k far at member from_k away stands = subst (λ (node : NodeValue). WaitsAt tid member at.number node) (sym (ap (λ (v : World). nodes_in v k) next_is ∙ node_other k far))
        (await k at member from_k away (subst (λ (x : TransactionValue). is_some (standing_request x at member) ≡ true) (some_same (sym s.found ∙ had)) s.stands))
      where
        s : Stands book tid at member
        s = others tx found undecided k far at member from_k stands

    awaited_then : HoldsAwaited tid (book_in o next) (nodes_in next) w
    awaited_then tx found undecided = of (after tx found undecided)
      where
        of_own : Placed tid tx (field_of next) → IsDoomed w ⊎ AwaitsOwn n tid tx (after_step (world.hosts n).node event free) → IsDoomed w ⊎ AreAwaited tid tx (nodes_in next)
        of_own placed (inl doomed) = inl doomed
        of_own placed (inr mine) = with_others (find_transaction book tid) refl
          where
            each : ((k : ℕ) → (k == n) ≡ false → AwaitsOwn k tid tx (nodes_in next k)) → AreAwaited tid tx (nodes_in next)
            each rest k = by (k == n) refl
              where
                by : (b : Bool) → (k == n) ≡ b → AwaitsOwn k tid tx (nodes_in next k)
                by true near = subst (λ (i : ℕ). AwaitsOwn i tid tx (nodes_in next i)) (sym (eqb-true k n near)) (subst (λ (node : NodeValue). AwaitsOwn n tid tx node) (sym (ap (λ (v : World). nodes_in v n) next_is ∙ node_own)) mine)
                by false far = rest k far

            of_before : (was : TransactionValue) → find_transaction book tid ≡ Some was → IsDoomed w ⊎ AreAwaited tid was (nodes_in world) → IsDoomed w ⊎ AreAwaited tid tx (nodes_in next)
            of_before was had (inl doomed) = inl doomed
            of_before was had (inr await) = inr (each (λ k far. other_awaits was had await tx found undecided k far))

            with_others : (x : Option TransactionValue) → find_transaction book tid ≡ x → IsDoomed w ⊎ AreAwaited tid tx (nodes_in next)
            with_others None none = inr (each (λ k far at member from_k away stands. absurd (let s : Stands book tid at member = others tx found undecided k far at member from_k stands in let there : find_transaction book tid ≡ Some s.tx = s.found in cc (none, there))))
            with_others (Some was) had = of_cell (is_open was.cell) refl
              where
                of_cell : (b : Bool) → is_open was.cell ≡ b → IsDoomed w ⊎ AreAwaited tid tx (nodes_in next)
                of_cell true undecided_was = of_before was had (awaited was had undecided_was)
                of_cell false over = inr (each (λ k far at member from_k away stands. absurd (let s : Stands book tid at member = others tx found undecided k far at member from_k stands in let still : is_open s.tx.cell ≡ true = s.undecided in
                    cc (still, ap (λ (x : TransactionValue). is_open x.cell) (some_same (sym s.found ∙ had)) ∙ over))))

        of : IsDoomed w ⊎ Placed tid tx (field_of next) → IsDoomed w ⊎ AreAwaited tid tx (nodes_in next)
        of (inl doomed) = inl doomed
        of (inr placed) = of_own placed (own o world n stamp free source event j makes lawful tid w shows before awaited tx found undecided placed)

  -- ---- each that has begun

  begins : (tid : Tid) → has_begun new tid ≡ true → has_begun world tid ≡ false → AwaitedOf tid o next
  begins tid begun unbegun = record {
    places = record { machine = shows.machine; shows = all; placed = holds };
    awaited = awaited_then tid shows.machine all (λ tx found. absurd (cc (none, found))) (λ tx found. absurd (cc (none, found))) holds;
  }
    where
      shows : IsShown tid new
      shows = (shown o world n stamp free source jp may event comes lawful).shown tid begun

      all : ShowsAll tid next shows.machine
      all = subst (λ (v : World). ShowsAll tid v shows.machine) (sym next_is) shows.shows

      none : find_transaction book tid ≡ None
      none = none_before o world n stamp free source jp may event comes lawful tid begun unbegun

      holds : HoldsPlaced tid (book_in o next) (field_of next) shows.machine
      holds = whole_step_holds tid o world n stamp free source event shows.machine jp makes lawful (fresh_find shows.machine tid o world n stamp free source event jp makes lawful (home_is o world n stamp free source jp may event comes lawful tid begun unbegun) unbegun none) (inr none)

  goes_on : (tid : Tid) → has_begun world tid ≡ true → AwaitedOf tid o next
  goes_on tid was = record { places = record { machine = f.next; shows = f.shows; placed = holds }; awaited = awaited_then tid f.next f.shows (λ tx found undecided. later tx (p.placed tx found undecided)) (λ tx found undecided. later_awaited tx (a.awaited tx found undecided)) holds }
    where
      a : AwaitedOf tid o world
      a = less o world j.places tid was

      p : PlacedOf tid o world
      p = a.places

      f : WholeFound tid o world n stamp free source event p.machine
      f = whole_find tid o world n stamp free source event p.machine jp makes lawful was p.shows

      holds : HoldsPlaced tid (book_in o next) (field_of next) f.next
      holds = whole_step_holds tid o world n stamp free source event f.next jp makes lawful f.finds (inl (p, f.leads))

      later : (tx : TransactionValue) → IsDoomed p.machine ⊎ Placed tid tx (field_of world) → IsDoomed f.next ⊎ Placed tid tx (field_of world)
      later tx (inl doomed) = inl (doom_stays p.machine f.next doomed f.leads)
      later tx (inr placed) = inr placed

      later_awaited : (tx : TransactionValue) → IsDoomed p.machine ⊎ AreAwaited tid tx (nodes_in world) → IsDoomed f.next ⊎ AreAwaited tid tx (nodes_in world)
      later_awaited tx (inl doomed) = inl (doom_stays p.machine f.next doomed f.leads)
      later_awaited tx (inr await) = inr await

  awaited_next : AwaitedAt o next
  awaited_next tid begun = by (has_begun world tid) refl
    where
      by : (b : Bool) → has_begun world tid ≡ b → AwaitedOf tid o next
      by true was = goes_on tid was
      by false unbegun = begins tid (subst (λ (v : World). has_begun v tid ≡ true) next_is begun) unbegun

pub steps_keep_awaited : (P : Opening → World → Type 0) → ((o : Opening) (world : World) → P o world → AwaitedAt o world) → EachOwnAwaited P → Keeps P IsStep AwaitedAt
steps_keep_awaited P less own o world (Step n stamp free source) is j may lawful = by (event_of world n stamp source) refl
  where
    by : (e : Option Event) → event_of world n stamp source ≡ e → AwaitedAt o (moved (Step n stamp free source) world)
    by None none = subst (λ (e : Option Event). AwaitedAt o (step_with world n stamp free source e)) (sym none) (less o world j.places)
    by (Some event) comes = awaited_next P less own o world n stamp free source j may event comes
        (lawful_more o world (step_with world n stamp free source (Some event)) (entries_in world n stamp free event) refl (subst (λ (e : Option Event). IsLawful (book_of o) (step_with world n stamp free source e).journal) comes lawful))
steps_keep_awaited P less own o world (Cut n stamp free source is_kept cause) is j may lawful = absurd is
steps_keep_awaited P less own o world (Stop n stamp cause) is j may lawful = absurd is
steps_keep_awaited P less own o world (Rise n stamp inc) is j may lawful = absurd is
steps_keep_awaited P less own o world (Meet n stamp m inc) is j may lawful = absurd is
