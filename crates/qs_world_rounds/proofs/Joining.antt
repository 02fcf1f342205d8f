-- What carrying and visits leave joined.
use Rattle.std.proofs.Common.{◌≡◌, ◌∙◌, ◌<◌, ap, subst, sym, refl, ℕ, zero, suc, Bool, false, ◌≤◌, List, [], ◌∷◌, length, get_or, arith}
use Rattle.std.specs.Prelude.{◌↔◌, Option, Some, None, Result, Ok, Err, IfOk, OnOk, slice_get, slice_set}
use Rattle.qs_base.specs.declared.identifiers.ClientNo.{ClientNo}
use Rattle.qs_base.specs.declared.memory.NoMemory.{NoMemory}
use Rattle.qs_cell.specs.Joined.{StayJoined}
use Rattle.qs_cell_peers.specs.Links.{IsSameNode, LinksValue}
use Rattle.qs_client.specs.Progress.{to_send}
use Rattle.qs_client.specs.Turns.{HearsThenSends}
use Rattle.qs_client.specs.declared.cell.ClientCell.{ClientCell}
use Rattle.qs_book_journal.specs.declared.script_line.LineAnswer.{LineAnswer}
use Rattle.qs_book_journal.specs.declared.script_line.ScriptLine.{ScriptLine}
use Rattle.qs_link.specs.Lanes.{ends_of, SendsTo, SendsFrom, CarriesIn, CarriesOut}
use Rattle.qs_link.specs.declared.ends.NodeEnds.{NodeEnds}
use Rattle.qs_link.specs.Lane.{FeedValue, DrawValue}
use Rattle.qs_world_rounds.specs.Lanes.{IsJoined, AllJoined}
use Rattle.qs_world_rounds.specs.Rounds.{ClientVisitAt}
use Rattle.rtrb.specs.Ring.{SameProducer, SameConsumer}

-- ---- one end

feed_on : (a b : FeedValue ScriptLine) (end : Option NodeEnds) → SameProducer a.ring b.ring → SendsTo a end → SendsTo b end
feed_on a b None same sends = tt
feed_on a b (Some end) same sends =
    (sends.0 ∙ sym same.0.0, sends.1 ∙ sym same.0.1, sends.2 ∙ sym same.0.2, sends.3 ∙ sym same.0.3)

draw_on : (a b : DrawValue LineAnswer) (end : Option NodeEnds) → SameConsumer a.ring b.ring → SendsFrom end a → SendsFrom end b
draw_on a b None same sends = tt
draw_on a b (Some end) same sends =
    (same.0.0 ∙ sends.0, same.0.1 ∙ sends.1, same.0.2 ∙ sends.2, same.0.3 ∙ sends.3)

carried_feed : (client : ClientNo) (from_old from_new : FeedValue ScriptLine) (old new : List NodeEnds) (held : Result ℕ NoMemory) (end other : Option NodeEnds)
    → CarriesIn client from_old from_new old new held end → SendsTo from_old other → SendsTo from_new other
carried_feed client from_old from_new old new held None other carries sends = subst (λ (f : FeedValue ScriptLine). SendsTo f other) (sym carries.1.0) sends
carried_feed client from_old from_new old new held (Some end) other carries sends = feed_on from_old from_new other carries.1.1.feed sends

carried_draw : (client : ClientNo) (to_old to_new : DrawValue LineAnswer) (old new : List NodeEnds) (held : Result ℕ NoMemory) (end other : Option NodeEnds)
    → CarriesOut client to_old to_new old new held end → SendsFrom other to_old → SendsFrom other to_new
carried_draw client to_old to_new old new held None other carries sends = subst (λ (d : DrawValue LineAnswer). SendsFrom other d) (sym carries.1.0) sends
carried_draw client to_old to_new old new held (Some end) other carries sends = draw_on to_old to_new other carries.1.1.draw sends

-- ---- carrying

-- as the client has them
pub carries_in_as : (number other : ClientNo) (feed as_feed from_new : FeedValue ScriptLine) (old new : List NodeEnds) (held : Result ℕ NoMemory) → number ≡ other
    → feed ≡ as_feed → CarriesIn number feed from_new old new held (ends_of number old) → CarriesIn other as_feed from_new old new held (ends_of other old)
carries_in_as number other feed as_feed from_new old new held same is carries =
    subst (λ (f : FeedValue ScriptLine). CarriesIn other f from_new old new held (ends_of other old)) is
    (subst (λ (n : ClientNo). CarriesIn n feed from_new old new held (ends_of n old)) same carries)

pub carries_out_as : (number other : ClientNo) (draw as_draw to_new : DrawValue LineAnswer) (old new : List NodeEnds) (held : Result ℕ NoMemory) → number ≡ other
    → draw ≡ as_draw → CarriesOut number draw to_new old new held (ends_of number old) → CarriesOut other as_draw to_new old new held (ends_of other old)
carries_out_as number other draw as_draw to_new old new held same is carries =
    subst (λ (d : DrawValue LineAnswer). CarriesOut other d to_new old new held (ends_of other old)) is
    (subst (λ (n : ClientNo). CarriesOut n draw to_new old new held (ends_of n old)) same carries)

-- the commands of a client were carried
pub joined_in : (client after : ClientCell) (old new : List NodeEnds) (held : Result ℕ NoMemory) → IsJoined old client → StayJoined old new
    → CarriesIn client.client client.commands after.commands old new held (ends_of client.client old) → after.client ≡ client.client → after.answers ≡ client.answers
    → IsJoined new after
joined_in client after old new held joined stays carries number answers = record {
  commands = subst (λ (n : ClientNo). SendsTo after.commands (ends_of n new)) (sym number)
      (carried_feed client.client client.commands after.commands old new held (ends_of client.client old) (ends_of client.client new) carries
      (stays.commands client.client client.commands joined.commands));
  answers = subst (λ (n : ClientNo). SendsFrom (ends_of n new) after.answers) (sym number)
      (subst (λ (d : DrawValue LineAnswer). SendsFrom (ends_of client.client new) d) (sym answers)
      (stays.answers client.client client.answers joined.answers));
}

-- and the answers to it
pub joined_out : (client after : ClientCell) (old new : List NodeEnds) (held : Result ℕ NoMemory) → IsJoined old client → StayJoined old new
    → CarriesOut client.client client.answers after.answers old new held (ends_of client.client old) → after.client ≡ client.client → after.commands ≡ client.commands
    → IsJoined new after
joined_out client after old new held joined stays carries number commands = record {
  commands = subst (λ (n : ClientNo). SendsTo after.commands (ends_of n new)) (sym number)
      (subst (λ (f : FeedValue ScriptLine). SendsTo f (ends_of client.client new)) (sym commands)
      (stays.commands client.client client.commands joined.commands));
  answers = subst (λ (n : ClientNo). SendsFrom (ends_of n new) after.answers) (sym number)
      (carried_draw client.client client.answers after.answers old new held (ends_of client.client old) (ends_of client.client new) carries
      (stays.answers client.client client.answers joined.answers));
}

pub stays_on : (a b c : List NodeEnds) → StayJoined a b → StayJoined b c → StayJoined a c
stays_on a b c first second = record {
  commands = λ client feed sends. second.commands client feed (first.commands client feed sends);
  answers = λ client draw sends. second.answers client draw (first.answers client draw sends);
}

pub one_stays : (old new : List NodeEnds) (client : ClientCell) → StayJoined old new → IsJoined old client → IsJoined new client
one_stays old new client stays joined = record {
  commands = stays.commands client.client client.commands joined.commands;
  answers = stays.answers client.client client.answers joined.answers;
}

-- the others stay joined
pub all_stay : (old new : List NodeEnds) (clients : List ClientCell) → StayJoined old new → AllJoined old clients → AllJoined new clients
all_stay old new [] stays joined = tt
all_stay old new (client ∷ clients) stays joined = (one_stays old new client stays joined.0, all_stay old new clients stays joined.1)

-- ---- a visit of a client

visited : (ends : List NodeEnds) (old new : ClientCell) → new.client ≡ old.client → new.commands.ring ≡ old.commands.ring → new.answers.ring ≡ old.answers.ring
    → IsJoined ends old → IsJoined ends new
visited ends old new number commands answers joined = record {
  commands = subst (λ (n : ClientNo). SendsTo new.commands (ends_of n ends)) (sym number)
      (feed_on old.commands new.commands (ends_of old.client ends) (subst (λ r. SameProducer old.commands.ring r) (sym commands) ((refl, refl, refl, refl), refl)) joined.commands);
  answers = subst (λ (n : ClientNo). SendsFrom (ends_of n ends) new.answers) (sym number)
      (draw_on old.answers new.answers (ends_of old.client ends) (subst (λ r. SameConsumer old.answers.ring r) (sym answers) ((refl, refl, refl, refl), refl)) joined.answers);
}

pub set_joined : (ends : List NodeEnds) (clients : List ClientCell) (at : ℕ) (d here new : ClientCell) → at < length clients → here ≡ get_or clients at d
    → new.client ≡ here.client → new.commands.ring ≡ here.commands.ring → new.answers.ring ≡ here.answers.ring
    → AllJoined ends clients → AllJoined ends (slice_set clients at new)
set_joined ends [] at d here new less is number commands answers joined = absurd (omega (arith, less))
set_joined ends (client ∷ clients) zero d here new less is number commands answers joined =
    (visited ends here new number commands answers (subst (IsJoined ends) (sym is) joined.0), joined.1)
set_joined ends (client ∷ clients) (suc at) d here new less is number commands answers joined =
    (joined.0, set_joined ends clients at d here new (omega (arith, less)) is number commands answers joined.1)

-- ---- the visit of the client at a place

slice_get_some : (clients : List ClientCell) (at : ℕ) (d : ClientCell) → at < length clients → slice_get clients at ≡ Some (get_or clients at d)
slice_get_some [] at d less = absurd (omega (arith, less))
slice_get_some (client ∷ clients) zero d less = refl
slice_get_some (client ∷ clients) (suc at) d less = slice_get_some clients at d (omega (arith, less))

slice_get_none : (clients : List ClientCell) (at : ℕ) → length clients ≤ at → slice_get clients at ≡ None
slice_get_none [] at less = refl
slice_get_none (client ∷ clients) zero less = absurd (omega (arith, less))
slice_get_none (client ∷ clients) (suc at) less = slice_get_none clients at (omega (arith, less))

-- what is told of an answer is told of what it says
told_of : (result : Result Bool NoMemory) (did : Bool) (P : Type 0) → result ≡ Ok did → (result ≡ Ok false) ↔ P → (did ≡ false) ↔ P
told_of result did P is told = (λ none. told.0 (is ∙ ap (λ (b : Bool). Ok b) none), λ p. cc (told.1 p, is))

pub visited_at : (clients : List ClientCell) (at : ℕ) (d here new : ClientCell) (result : Result Bool NoMemory) → at < length clients → here ≡ get_or clients at d
    → IfOk result (λ did. HearsThenSends did here new) → (result ≡ Ok false) ↔ (to_send here.progress ≡ None) × (here.answers.inbox ≡ [])
    → new.client ≡ here.client → new.commands.ring ≡ here.commands.ring → new.answers.ring ≡ here.answers.ring
    → IfOk result (ClientVisitAt at (slice_get clients at) clients (slice_set clients at new))
visited_at clients at d here new (Ok did) less is turn idle number commands answers =
    subst (λ (c : Option ClientCell). ClientVisitAt at c clients (slice_set clients at new) did)
    (sym (slice_get_some clients at d less ∙ ap (λ (c : ClientCell). Some c) (sym is)))
    (new, (record { turn = turn; idle = told_of (Ok did) did _ refl idle; client = number; commands = commands; answers = answers }, refl))
visited_at clients at d here new (Err e) less is turn idle number commands answers = tt

pub visited_none : (clients : List ClientCell) (at : ℕ) → length clients ≤ at → ClientVisitAt at (slice_get clients at) clients clients false
visited_none clients at less =
    subst (λ (c : Option ClientCell). ClientVisitAt at c clients clients false) (sym (slice_get_none clients at less)) (refl, refl)

-- ---- the links stay whose they are

pub same_by : (old new : LinksValue) → new ≡ old → IsSameNode old new
same_by old new is = record { size = ap (λ (v : LinksValue). v.size) is; me = ap (λ (v : LinksValue). v.me) is }

-- ---- what follows of a result that is Ok

pub on_ok_map : {T E A B : Type 0} (result : Result T E) → OnOk result A → (A → B) → OnOk result B
on_ok_map (Ok t) a f = f a
on_ok_map (Err e) a f = a
