-- What a node issues to others in a step waits as the step ends where each of its entries that issues one does, since its node has decided nothing of what is undecided then.
use Rattle.qs_world_runs.proofs.Words.{◌≡◌, ◌⊎◌, inl, inr, ℕ, ◌==◌, true, Option, Some, refl, sym, ap, subst, ◌∙◌, NodeNo, Tid, BookValue, find_transaction, book_after, TransactionValue, standing_request, after_step, effects_of, Event, Source, Step, moved, step_with, Opening, World, MakesStep, IsWaiting, WaitsAt, EachIssueWaits, Joined, book_in, PlacesAt, entries_in, none_some}
use Rattle.qs_book_machine.specs.Lawful.{IsLawful}
use Rattle.qs_book_machine.specs.Transaction.{is_open}
use Rattle.qs_world_runs.specs.Awaiting.{AwaitsFresh, EachFreshAwaited}
use Rattle.qs_world_runs.proofs.ClientsGo.{of_steps}
use Rattle.qs_world_runs.proofs.FreshIssued.{IsIssuedIn, StandsIn, issued_or_stood}
use Rattle.qs_world_runs.proofs.JoinedAs.{joined_as}
use Rattle.qs_world_runs.proofs.JoinedParts.{book_on}
use Rattle.qs_world_runs.proofs.OwnAwaited.{never_decided}
use Rattle.qs_world_runs.proofs.PlacesJoined.{amid}

module _ (P : Opening → World → Type 0) (less : (o : Opening) (world : World) → P o world → PlacesAt o world) (issues : EachIssueWaits P) (o : Opening) (world : World) (n stamp free : ℕ) (source : Source) (event : Event) (j : Joined P o world) (makes : MakesStep world n stamp source event) (lawful : IsLawful (book_in o world) (entries_in world n stamp free event))
    (tid : Tid) (tx : TransactionValue) (found_next : find_transaction (book_in o (moved (Step n stamp free source) world)) tid ≡ Some tx) (undecided : is_open tx.cell ≡ true) where
  abbrev now : BookValue
  now = book_after (book_in o world) (entries_in world n stamp free event)

  found_now : find_transaction now tid ≡ Some tx
  found_now = subst (λ (b : BookValue). find_transaction b tid ≡ Some tx) (ap (λ (e : Option Event). book_in o (step_with world n stamp free source e)) makes.comes ∙ book_on o world (step_with world n stamp free source (Some event)) (entries_in world n stamp free event) refl) found_next

  fresh_waits : AwaitsFresh n tid (book_in o world) tx (after_step (world.hosts n).node event free)
  fresh_waits at member from_n away stands new = by (issued_or_stood stamp n tid at member (effects_of (world.hosts n).node event free).entries (book_in o world) (amid o world (joined_as P PlacesAt o world (less o world) j) n stamp free source event makes).inv (of_steps P o world j n stamp free source event makes) lawful
      (record { tx = tx; found = found_now; stands = stands }))
    where
      waits : IsWaiting tid member at.number (after_step (world.hosts n).node event free) → WaitsAt tid member at.number (after_step (world.hosts n).node event free)
      waits (inl w) = w
      waits (inr kept) = absurd (never_decided P less o world j n stamp free source event makes lawful tid tx found_now undecided kept)

      by : IsIssuedIn tid at member (effects_of (world.hosts n).node event free).entries ⊎ StandsIn (book_in o world) tid at member → WaitsAt tid member at.number (after_step (world.hosts n).node event free)
      by (inl issue) = waits (issues o world n stamp free source event j makes tid issue.issuer member at.number issue.op issue.among (ap (λ (k : NodeNo). k.0 == n) (sym issue.to) ∙ away))
      by (inr stood) = absurd (none_some (standing_request stood.tx at member) (new stood.tx stood.found) stood.stands)

pub fresh_awaited : (P : Opening → World → Type 0) → ((o : Opening) (world : World) → P o world → PlacesAt o world) → EachIssueWaits P → EachFreshAwaited P
fresh_awaited P less issues o world n stamp free source event j makes lawful tid w shows before awaited tx found undecided placed = inr (fresh_waits P less issues o world n stamp free source event j makes lawful tid tx found undecided)
