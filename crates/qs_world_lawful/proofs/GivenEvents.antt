-- An event of a node of the world comes as it is given: from the next line of a client, the next message of a channel, or by itself.
use Rattle.qs_world_lawful.proofs.Words.{◌≡◌, ℕ, ◌==◌, Bool, true, false, Option, Some, None, zero, suc, refl, sym, ap, subst, ◌∙◌, arith, nat_lt, nat_tests, list_all, ◌&&◌, if◌then◌else◌, ScriptLine, BookValue, work_on, Event, Source, Commanded, Handed, Queues, Clock, Noticed, event_of, IsOpening, are_rising, labels_begun, next_parcel, Opening, Parcel, World, known_of, ComesTo, eqb-true}
use Rattle.qs_node_step.specs.declared.event.Event.TheVariants as events
use Rattle.qs_world.specs.Moves.{command_of, has_begun, node_no}
use Rattle.qs_world.specs.Openings.{each_below, is_line, is_script}
use Rattle.qs_world.specs.Posting.{next_line}
use Rattle.qs_world_lawful.specs.Parcels.{IsBetween}
use Rattle.qs_world_lawful.specs.WorldGives.{WorldGives}
use Rattle.qs_world_lawful.proofs.GivenByWorld.{line_comes, message_between, message_comes}
use Rattle.qs_world_lawful.proofs.Truths.{left_true, of_some, right_true}

each_at : (count : ℕ) (test : ℕ → Bool) (k : ℕ) → each_below count test ≡ true → nat_lt k count ≡ true → test k ≡ true
each_at zero test k all below = absurd (no k below)
  where
    no : (i : ℕ) → nat_lt i 0 ≡ true → ⊥
    no i is = grind (arith, nat_tests, is)
each_at (suc count) test k all below = by (k == count) refl (each_at count test k (right_true (test count) _ all))
  where
    lower : (k == count) ≡ false → nat_lt k count ≡ true
    lower other = grind (arith, nat_tests, other, below)

    by : (b : Bool) → (k == count) ≡ b → (nat_lt k count ≡ true → test k ≡ true) → test k ≡ true
    by true is rest = ap test (eqb-true k count is) ∙ left_true (test count) _ all
    by false is rest = rest (lower is)

module _ (o : Opening) (book : BookValue) (world : World) (n stamp free : ℕ) (opens : IsOpening o) (source : Source) (g : WorldGives o book world n free source) where
  formed : (k : ℕ) → nat_lt k 64 ≡ true → list_all (is_line world.size k (labels_begun (o.clients k).1)) (o.clients k).1 ≡ true
  formed k small = subst (λ (size : ℕ). list_all (is_line size k (labels_begun (o.clients k).1)) (o.clients k).1 ≡ true) (sym g.size)
      (right_true (are_rising 0 (o.clients k).1) _ (right_true (nat_lt (o.clients k).0 o.size) _ (each_at 64 (λ k. is_script o.size k (o.clients k)) k opens.scripts small)))

  commanded : (k : ℕ) (event : Event) (b : Bool) → (nat_lt k 64 && ((world.clients k).at == n)) ≡ b → (line : Option ScriptLine) → next_line (world.clients k) ≡ line
      → (if b then elim line [ None ↦ None | Some l ↦ Some (command_of l) ] else None) ≡ Some event → ComesTo book event (work_on (world.hosts n).node free)
  commanded k event false test line next is = absurd (cc is)
  commanded k event true test None next is = absurd (cc is)
  commanded k event true test (Some line) next is = subst (λ (e : Event). ComesTo book e (work_on (world.hosts n).node free)) (of_some is)
      (line_comes o book world k n (g.scripts.clients k (left_true (nat_lt k 64) _ test)) (left_true (nat_lt k 64) _ test) g.in_run g.up (eqb-true (world.clients k).at n (right_true (nat_lt k 64) _ test)) g.nodes (formed k (left_true (nat_lt k 64) _ test)) line next)

  handed : (m : ℕ) (event : Event) (p : Option Parcel) → next_parcel world n m ≡ p → elim p [ None ↦ None | Some parcel ↦ if nat_lt parcel.stamp stamp then Some (events.Received (node_no m) parcel.message) else None ] ≡ Some event → ComesTo book event (work_on (world.hosts n).node free)
  handed m event None next is = absurd (cc is)
  handed m event (Some parcel) next is = by (nat_lt parcel.stamp stamp) is
    where
      between : IsBetween world.size m n
      between = message_between book world n m g.channels parcel next

      by : (b : Bool) → (if b then Some (events.Received (node_no m) parcel.message) else None) ≡ Some event → ComesTo book event (work_on (world.hosts n).node free)
      by false is = absurd (cc is)
      by true is = subst (λ (e : Event). ComesTo book e (work_on (world.hosts n).node free)) (of_some is)
          (message_comes book world n m g.channels (g.ways m n between.from between.to between.other) g.node g.nodes parcel next)

  from_source : (from : Source) → source ≡ from → (event : Event) → event_of world n stamp from ≡ Some event → ComesTo book event (work_on (world.hosts n).node free)
  from_source (Commanded k) its event is = commanded k event (nat_lt k 64 && ((world.clients k).at == n)) refl (next_line (world.clients k)) refl is
  from_source (Handed m) its event is = handed m event (next_parcel world n m) refl is
  from_source Queues its event is = subst (λ (e : Event). ComesTo book e (work_on (world.hosts n).node free)) (of_some is) (g.room its)
  from_source Clock its event is = subst (λ (e : Event). ComesTo book e (work_on (world.hosts n).node free)) (of_some is) g.young
  from_source (Noticed m new) its event is = by (nat_lt 0 (known_of world n m) && (nat_lt (known_of world n m) new && has_begun world stamp m new)) is
    where
      by : (b : Bool) → (if b then Some (events.PeerRestarted (node_no m) (known_of world n m) new) else None) ≡ Some event → ComesTo book event (work_on (world.hosts n).node free)
      by false is = absurd (cc is)
      by true is = subst (λ (e : Event). ComesTo book e (work_on (world.hosts n).node free)) (of_some is) tt

  pub event_comes : (event : Event) → event_of world n stamp source ≡ Some event → ComesTo book event (work_on (world.hosts n).node free)
  event_comes event is = from_source source refl event is
