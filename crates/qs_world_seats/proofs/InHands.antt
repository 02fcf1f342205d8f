-- What waits at a node is in the hands of its cell through a step, and so whoever is answered has a command in hand and is answered under its number.
use Rattle.std.proofs.Common.{◌≡◌, ◌⊎◌, ◌∙◌, ap, inl, inr, refl, subst, sym, ℕ, ◌==◌, false, List, [], Option, Some, None}
use Rattle.std.proofs.lemmas.Cmp.{nat_cmp_total, on_total, tied_itself}
use Rattle.std.specs.BTreeMap.{insert_entry, is_at}
use Rattle.std.specs.Cmp.{IsTotalOrder}
use Rattle.qs_base.specs.declared.identifiers.ClientNo.{ClientNo}
use Rattle.qs_cell_chronicle.specs.Carried as carried
use Rattle.qs_cell_chronicle.specs.Carried.{Commands, in_hand}
use Rattle.qs_cell_chronicle.specs.Occasions.{event_of, taken}
use Rattle.qs_cell_chronicle.specs.declared.carried.HeldCommand.{HeldCommand}
use Rattle.qs_cell_chronicle.specs.declared.occasion.Occasion.{Occasion}
use Rattle.qs_cell_chronicle.specs.declared.occasion.Occasion.TheVariants as occasions
use Rattle.qs_book_laws.proofs.Maps.{lookup_put, lookup_put_apart}
use Rattle.qs_book_laws.proofs.Rising.{put_rises}
use Rattle.qs_node_step.specs.State.{NodeValue, client_cmp}
use Rattle.qs_node_step.specs.Step.{effects_of, after_step}
use Rattle.qs_node_step.specs.declared.event.ClientAnswer.{ClientAnswer}
use Rattle.qs_node_step.specs.declared.state.OpenCommand.{OpenCommand}
use Rattle.qs_world_one.specs.Showing.{AnswersHeld, AnswersRight, IsHeldAs, IsInHand, Waiting, answers_to, held_for, its_line, line_of}
use Rattle.qs_world_one.proofs.AnswersOnce.{Answered, Fate, Waits, Went}
use Rattle.qs_world_one.proofs.AnswersOut.{left}
use Rattle.qs_world_one.proofs.Handing.{exact, not_at, same_or}
use Rattle.qs_world_seats.proofs.Answering.{IsCome, step_goes}

pub client_total : IsTotalOrder client_cmp
client_total = on_total (λ (c : ClientNo). c.0) nat_cmp_total

-- as a node begins nothing waits
pub none_waits : (waits : Waiting) (commands : Commands) → waits ≡ [] → IsInHand waits commands
none_waits waits commands none = subst (λ (w : Waiting). IsInHand w commands) (sym none) (record { rising = tt; held = λ client number at. absurd (cc at) })

-- ---- what comes is taken in hand

abbrev came_of : Occasion → Waiting → Waiting
came_of (occasions.Command line) waits = insert_entry client_cmp waits line.client (record { line = line; issued = None })
came_of occasions.Queues waits = waits
came_of occasions.Clock waits = waits
came_of (occasions.Message packet) waits = waits
came_of (occasions.Restarted packet known) waits = waits

is_come : (occasion : Occasion) (waits : Waiting) → IsCome (event_of occasion) waits (came_of occasion waits)
is_come (occasions.Command line) waits = refl
is_come occasions.Queues waits = refl
is_come occasions.Clock waits = refl
is_come (occasions.Message packet) waits = refl
is_come (occasions.Restarted packet known) waits = refl

came_held : (occasion : Occasion) (inc : ℕ) (waits : Waiting) (commands : Commands) → IsInHand waits commands → IsInHand (came_of occasion waits) (taken occasion inc commands)
came_held (occasions.Command line) inc waits commands h = record {
  rising = put_rises client_cmp client_total line.client command waits h.rising;
  held = λ k number at. by k number (same_or k line.client) at;
}
  where
    command : OpenCommand
    command = record { line = line; issued = None }

    its : HeldCommand
    its = record { line = line; inc = inc }

    by : (k : ClientNo) (number : ℕ) → (k ≡ line.client) ⊎ ((k.0 == line.client.0) ≡ false) → its_line k (insert_entry client_cmp waits line.client command) ≡ Some number → IsHeldAs (held_for k (in_hand inc line commands)) number
    by k number (inl same) at = subst (λ (c : ClientNo). IsHeldAs (held_for c (in_hand inc line commands)) number) (sym same) (record {
      command = its;
      has = lookup_put client_cmp line.client its (tied_itself nat_cmp_total line.client.0) commands;
      number_is = one (sym (subst (λ (c : ClientNo). its_line c (insert_entry client_cmp waits line.client command) ≡ Some number) same at)
          ∙ ap line_of (lookup_put client_cmp line.client command (tied_itself nat_cmp_total line.client.0) waits));
    })
      where
        one : Some number ≡ Some line.line → number ≡ line.line
        one e = cc e
    by k number (inr far) at =
        subst (λ (o : Option HeldCommand). IsHeldAs o number) (sym (lookup_put_apart client_cmp line.client its (exact line.client) (is_at (client_cmp k)) (not_at k line.client far) commands))
        (h.held k number (ap line_of (sym (lookup_put_apart client_cmp line.client command (exact line.client) (is_at (client_cmp k)) (not_at k line.client far) waits)) ∙ at))
came_held occasions.Queues inc waits commands h = h
came_held occasions.Clock inc waits commands h = h
came_held (occasions.Message packet) inc waits commands h = h
came_held (occasions.Restarted packet known) inc waits commands h = h

-- ---- through the step

module _ (node : NodeValue) (occasion : Occasion) (free inc : ℕ) (commands : Commands) (h : IsInHand node.commands commands) where
  abbrev came : Waiting
  came = came_of occasion node.commands

  abbrev then : Commands
  then = taken occasion inc commands

  abbrev said : List ClientAnswer
  said = (effects_of node (event_of occasion) free).answers

  abbrev now : Waiting
  now = (after_step node (event_of occasion) free).commands

  h_came : IsInHand came then
  h_came = came_held occasion inc node.commands commands h

  went : (k : ClientNo) → Went k came now [] said
  went k = step_goes k node (event_of occasion) free came (is_come occasion node.commands)

  fate : (k : ClientNo) → Fate k came now [] said
  fate k = (went k).fate h_came.rising

  -- each client is answered once at most, under the number of the line that it has in hand
  pub answers_right : AnswersRight then said
  answers_right k = by (fate k)
    where
      by : Fate k came now [] said → (answers_to k said ≡ []) ⊎ AnswersHeld (held_for k then) (answers_to k said)
      by (Waits line none) = inl none
      by (Answered given at none is) =
          let its : IsHeldAs (held_for k then) given.answer.line = h_came.held k given.answer.line at in
          inr (record { answer = given; command = its.command; is = is; has = its.has; number = its.number_is })

  -- what still waits is still in hand
  pub still_held : IsInHand now (carried.answered said then)
  still_held = record { rising = (went (record { 0 = 0 })).rising h_came.rising; held = λ k number at. by k number at (fate k) }
    where
      by : (k : ClientNo) (number : ℕ) → its_line k now ≡ Some number → Fate k came now [] said → IsHeldAs (held_for k (carried.answered said then)) number
      by k number at (Waits line none) =
          subst (λ (o : Option HeldCommand). IsHeldAs o number) (sym (left k said [] then none).held_is) (h_came.held k number (sym line ∙ at))
      by k number at (Answered given was gone is) = absurd (cc (sym gone ∙ at))
