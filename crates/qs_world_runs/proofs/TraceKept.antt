-- What all things that a rule does keep, whichever messages they send, is kept where each reply is tied to its request.
use Rattle.qs_world_runs.proofs.Words.{◌≡◌, true, Option, Some, None, ap, unwrap_or, tid_cmp, ClientNo, ServerNo, Delivery, tid_itself, Reply, Message, no_doings, Event, Doings, Deeds, IsKeptSo, IsKeptAt, IsKeptFirst, TakesInAt}
use Rattle.qs_book_laws.proofs.Maps.{lookup_put}
use Rattle.qs_packet.specs.declared.message.Message.TheVariants as messages
use Rattle.qs_world_runs.specs.Deeds.{TakesInSo, doings_in}
use Rattle.qs_world_runs.specs.DeedsReplied.{IsPlain, lent, served}
use Rattle.qs_world_runs.specs.Traces.{AsksNothing, member_at}

asks_nothing : (message : Message) → IsPlain message → AsksNothing message
asks_nothing (messages.Request tid label member number issuer op) plain = plain
asks_nothing message plain = tt

-- that a request was served is noted
noted_so : (server : ServerNo) (delivery : Delivery) (reply : Reply) (d : Deeds) → (doings_in delivery.tid (served server delivery reply d)).served ≡ true
noted_so server delivery reply d = ap (λ (o : Option Doings). (unwrap_or o no_doings).served) (lookup_put tid_cmp delivery.tid (record (doings_in delivery.tid d) { served = true }) (tid_itself delivery.tid) d.doings)

module _ (P : Deeds → Type 0) (k : IsKeptSo P) where
  lends : (server : ServerNo) (delivery : Delivery) (reply : Reply) (d : Deeds) (borrower : Option ClientNo) → P (served server delivery reply d) → P (lent delivery.tid borrower (served server delivery reply d))
  lends server delivery reply d None h = h
  lends server delivery reply d (Some client) h = k.lends (served server delivery reply d) delivery.tid client (noted_so server delivery reply d) h

  pub kept_first : IsKeptFirst P
  kept_first = record { enters = k.enters; sends = λ d to message plain. k.sends d to message (asks_nothing message plain) }

  pub kept_at : IsKeptAt P
  kept_at = record {
    first = kept_first;
    closes = k.closes;
    begins = k.begins;
    refuses = k.refuses;
    marks = k.marks;
    issues = k.issues;
    asks = k.asks;
    queues = k.queues;
    leaves = k.leaves;
    forgets = k.forgets;
    serves = λ d server delivery reply borrower next h. lends server delivery reply d borrower (k.serves d server delivery reply next h);
    replies = λ d server delivery reply borrower next far live h. k.sends (lent delivery.tid borrower (served server delivery reply d)) delivery.from (messages.Answered delivery.tid (member_at d.trace server) delivery.number reply) tt
        (lends server delivery reply d borrower (k.serves d server delivery reply next h));
    commit_asked = k.commit_asked;
    votes = k.votes;
    prepares = k.prepares;
    yields = k.yields;
    decides = k.decides;
  }

-- and what comes in the step
pub taken_at : (event : Event) (P Q : Deeds → Type 0) → IsKeptSo Q → TakesInSo event P Q → TakesInAt event P Q
taken_at event P Q k t = record {
  lets = λ d none. t.lets d;
  comes = t.comes;
  learns = t.learns;
  takes = t.takes;
  notices = λ d peer old new is h. k.stales d peer (t.lets d h);
}
