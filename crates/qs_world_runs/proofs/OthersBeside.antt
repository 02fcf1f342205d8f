-- What a step entered first is aside of each other node, so all that is held of that stands.
use Rattle.qs_world_runs.proofs.Words.{◌≡◌, ℕ, ◌<◌, ◌==◌, true, false, List, [], ◌∷◌, ◌++◌, sym, ap, subst, ◌∙◌, Act, Entry, after_both, BookValue, Work, effects_of, Event, book_of, opened_from, Source, entries_of, Opening, World, inc_of, taken_scene, IsSteady, inc_taken, steady_gives, AnswersElsewhere, IsAside, IsOfStep, Every, HoldsNodeOf, opens_soundly, opened_numbered, MakesStep, Joined, book_in, PlacesAt, book_amid, IsBeside, AreLawful}
use Rattle.qs_world_lawful.proofs.AsideIssued.{issued_held}
use Rattle.qs_world_lawful.proofs.AsideWhole.{keeps_others}
use Rattle.qs_world_runs.specs.PlacesTurns.{OthersBeside}
use Rattle.qs_world_runs.proofs.ClientsGo.{answers_aside, of_steps}
use Rattle.qs_world_runs.proofs.JoinedHeld.{all_aside, both_of}
use Rattle.qs_world_runs.proofs.JoinedParts.{lawful_both}

every_first : (P : Act → Type 0) (xs ys : List Act) → Every P (xs ++ ys) → Every P xs
every_first P [] ys all = tt
every_first P (x ∷ xs) ys all = (all.0, every_first P xs ys all.1)

module _ (o : Opening) (world : World) (j : Joined PlacesAt o world) (n stamp free : ℕ) (source : Source) (event : Event) (makes : MakesStep world n stamp source event)
    (work : Work) (more : List Act) (whole : (effects_of (world.hosts n).node event free).entries ≡ work.out.entries ++ more) (lawful : AreLawful n stamp (book_in o world) work)
    (k : ℕ) (low : k < world.size) (up : world.channels.up k ≡ true) (far : (k == n) ≡ false) where
  abbrev now : BookValue
  now = book_amid n stamp (book_in o world) work

  abbrev entries : List Entry
  entries = entries_of n stamp work.out.entries

  first_of : (P : Act → Type 0) → Every P (effects_of (world.hosts n).node event free).entries → Every P work.out.entries
  first_of P all = every_first P work.out.entries more (subst (Every P) whole all)

  asides : Every (IsAside k (world.hosts k).node) entries
  asides = all_aside k n stamp (world.hosts k).node work.out.entries far (both_of IsOfStep (AnswersElsewhere (world.hosts k).node) work.out.entries
      (first_of IsOfStep (of_steps PlacesAt o world j n stamp free source event makes)) (first_of (AnswersElsewhere (world.hosts k).node) (answers_aside PlacesAt o world j n stamp free source event makes k far low)))

  other : HoldsNodeOf now world.size k (inc_of world k) (world.channels.up k) (world.hosts k)
  other = subst (λ (b : BookValue). HoldsNodeOf b world.size k (inc_of world k) (world.channels.up k) (world.hosts k)) (after_both world.journal entries (book_of o))
      (keeps_others (opened_from o 0 o.size) world.journal entries (opens_soundly o j.opens) (opened_numbered o 0 o.size) (lawful_both world.journal entries (book_of o) j.lawful lawful)
      world.size k (inc_of world k) (world.channels.up k) (world.hosts k) asides (λ off. absurd (let both : true ≡ false = sym up ∙ off in cc (both)))
      (record { node = j.held.nodes k low; issued = λ on. issued_held (book_in o world) (world.hosts k).node (j.running k low on).beside })).node

  steady : IsSteady world
  steady = steady_gives world j.shown.steady j.shown.listed

  beside : IsBeside (taken_scene world n source) now k
  beside = record {
    sound = (steady.sound k low).node;
    at = steady.seated.node k low;
    inc = steady.seated.inc k low ∙ sym (ap (λ (f : ℕ → ℕ). f k) (inc_taken world n source));
    holds = (other.runs up).still;
  }

pub others_beside : OthersBeside
others_beside o world n stamp free source event j makes work more whole lawful k low up far = beside o world j n stamp free source event makes work more whole lawful k low up far
