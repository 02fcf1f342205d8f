-- The clients of a node, through what happens to all clients of the world.
use Rattle.std.proofs.Common.{◌≡◌, ◌⊎◌, ◌∙◌, ap, inl, inr, refl, subst, sym, ℕ, ◌==◌, ◌<◌, Bool, true, false, List, [], Option, Some, None, if◌then◌else◌}
use Rattle.std.proofs.lemmas.Bool.{eqb-true}
use Rattle.std.specs.List.{list_any}
use Rattle.qs_base_lemmas.proofs.Tests.{eqb-self}
use Rattle.qs_book_laws.proofs.Rising.{IsRising}
use Rattle.qs_cell.specs.Visits.{all_delivered}
use Rattle.qs_cell_chronicle.specs.Carried.{Commands, answered}
use Rattle.qs_client.specs.declared.cell.ClientCell.{ClientCell}
use Rattle.qs_link.specs.declared.ends.NodeEnds.{NodeEnds}
use Rattle.qs_node_step.specs.State.{client_cmp}
use Rattle.qs_node_step.specs.declared.event.ClientAnswer.{ClientAnswer}
use Rattle.qs_world.specs.Posting.{clients_after, handed, handed_back, is_answer_to}
use Rattle.qs_world.specs.Posting as posting
use Rattle.qs_world.specs.World.{Client, Opening}
use Rattle.qs_world_merge.specs.LocalRuns.{AnswersOnly, client_at}
use Rattle.qs_world_one.proofs.AnswersOut.{each_answers, each_handed_back, each_hands, left}
use Rattle.qs_world_one.specs.Clients.{ShowsClient}
use Rattle.qs_world_one.specs.Showing.{AnswersHeld, AnswersRight, ShowsIn, answers_to, held_for}
use Rattle.qs_world_seats.specs.Seats.{AreOfNode, AreSeated, IsSeated, at_home}

-- ---- what a client shows hangs on the world's client of its number alone

on_clients : (inc : ℕ) (now : Option ℕ) (commands : Commands) (ends : List NodeEnds) (f g : ℕ → Client) (client : ClientCell) → f client.client.0 ≡ g client.client.0 → ShowsIn inc now commands ends f client → ShowsIn inc now commands ends g client
on_clients inc now commands ends f g client same s = record {
  small = s.small;
  own = s.own;
  end = s.end;
  there = s.there;
  shows = subst (λ (c : Client). ShowsClient inc now (record { client = client; end = s.end; held = held_for client.client commands }) c) same s.shows;
}

pub seated_on : (o : Opening) (n inc : ℕ) (now : Option ℕ) (commands : Commands) (ends : List NodeEnds) (f g : ℕ → Client) (client : ClientCell) → f client.client.0 ≡ g client.client.0
    → IsSeated o n inc now commands ends f client → IsSeated o n inc now commands ends g client
seated_on o n inc now commands ends f g client same s = record {
  of = s.of;
  at = ap (λ (c : Client). c.at) (sym same) ∙ s.at;
  shows = on_clients inc now commands ends (at_home f) (at_home g) client (ap (λ (c : Client). record c { at = 0 }) same) s.shows;
}

-- ---- a command is handed over

handed_home : (j k : ℕ) (clients : ℕ → Client) → handed j (at_home clients) k ≡ at_home (handed j clients) k
handed_home j k clients = by (k == j)
  where
    by : (b : Bool) → (if b then record (at_home clients j) { is_handed = true } else at_home clients k) ≡ record (if b then record (clients j) { is_handed = true } else clients k) { at = 0 }
    by true = refl
    by false = refl

handed_at : (j k : ℕ) (clients : ℕ → Client) → (handed j clients k).at ≡ (clients k).at
handed_at j k clients = by (k == j) (eqb-true k j)
  where
    by : (b : Bool) → (b ≡ true → k ≡ j) → (if b then record (clients j) { is_handed = true } else clients k).at ≡ (clients k).at
    by true same = ap (λ (i : ℕ). (clients i).at) (sym (same refl))
    by false same = refl

pub seated_handed : (o : Opening) (n inc : ℕ) (now : Option ℕ) (commands held_then : Commands) (ends left : List NodeEnds) (clients : ℕ → Client) (j : ℕ) (client : ClientCell)
    → (ShowsIn inc now commands ends (at_home clients) client → ShowsIn inc now held_then left (handed j (at_home clients)) client) → IsSeated o n inc now commands ends clients client → IsSeated o n inc now held_then left (handed j clients) client
seated_handed o n inc now commands held_then ends left clients j client comes s = record {
  of = s.of;
  at = handed_at j client.client.0 clients ∙ s.at;
  shows = on_clients inc now held_then left (handed j (at_home clients)) (at_home (handed j clients)) client (handed_home j client.client.0 clients) (comes s.shows);
}

-- ---- answers go out

answered_home : (said : List ClientAnswer) (k : ℕ) (clients : ℕ → Client) → clients_after said (at_home clients) k ≡ at_home (clients_after said clients) k
answered_home said k clients = by (list_any (is_answer_to k) said)
  where
    by : (b : Bool) → (if b then posting.answered (at_home clients k) else at_home clients k) ≡ record (if b then posting.answered (clients k) else clients k) { at = 0 }
    by true = refl
    by false = refl

answered_at : (said : List ClientAnswer) (k : ℕ) (clients : ℕ → Client) → (clients_after said clients k).at ≡ (clients k).at
answered_at said k clients = by (list_any (is_answer_to k) said)
  where
    by : (b : Bool) → (if b then posting.answered (clients k) else clients k).at ≡ (clients k).at
    by true = refl
    by false = refl

pub seated_answered : (o : Opening) (n inc : ℕ) (now : Option ℕ) (commands : Commands) (ends : List NodeEnds) (shown : ℕ → Client) (clients : List ClientCell) (said : List ClientAnswer) → IsRising client_cmp commands → AnswersRight commands said
    → AreSeated o n inc now commands ends shown clients → AreSeated o n inc now (answered said commands) (all_delivered said ends) (clients_after said shown) clients
seated_answered o n inc now commands ends shown clients said rising right each client there = record {
  of = (each client there).of;
  at = answered_at said client.client.0 shown ∙ (each client there).at;
  shows = on_clients inc now (answered said commands) (all_delivered said ends) (clients_after said (at_home shown)) (at_home (clients_after said shown)) client (answered_home said client.client.0 shown)
      (each_answers inc now commands ends (at_home shown) said client rising right (each client there).shows);
}

-- whoever is answered had a command in hand
not_any : (b : Bool) → b ≡ false → b ≡ true → ⊥
not_any true is other = absurd (cc is)
not_any false is other = absurd (cc other)

pub answers_own : (o : Opening) (n : ℕ) (commands : Commands) (said : List ClientAnswer) → AnswersRight commands said → AreOfNode o n commands → AnswersOnly (client_at o) n said
answers_own o n commands said right own k any = by (right (record { 0 = k }))
  where
    by : (answers_to (record { 0 = k }) said ≡ []) ⊎ AnswersHeld (held_for (record { 0 = k }) commands) (answers_to (record { 0 = k }) said) → client_at o k ≡ n
    by (inl none) = absurd (not_any (list_any (is_answer_to k) said) (left (record { 0 = k }) said [] commands none).none any)
    by (inr h) = own (record { 0 = k }) h.command h.has

pub own_answered : (o : Opening) (n : ℕ) (commands : Commands) (said : List ClientAnswer) → AnswersRight commands said → AreOfNode o n commands → AreOfNode o n (answered said commands)
own_answered o n commands said right own client held is = by (right client)
  where
    by : (answers_to client said ≡ []) ⊎ AnswersHeld (held_for client commands) (answers_to client said) → client_at o client.0 ≡ n
    by (inl none) = own client held (sym (left client said [] commands none).held_is ∙ is)
    by (inr h) = own client h.command h.has

-- ---- the node stops, and rises

back_home : (n k : ℕ) (clients : ℕ → Client) → (clients k).at ≡ n → handed_back 0 (at_home clients) k ≡ at_home (handed_back n clients) k
back_home n k clients at = ap (λ (b : Bool). record (if b then record (clients k) { is_handed = false } else clients k) { at = 0 }) (sym (ap (λ (a : ℕ). a == n) at ∙ eqb-self n))

back_at : (n k : ℕ) (clients : ℕ → Client) → (handed_back n clients k).at ≡ (clients k).at
back_at n k clients = by ((clients k).at == n)
  where
    by : (b : Bool) → (if b then record (clients k) { is_handed = false } else clients k).at ≡ (clients k).at
    by true = refl
    by false = refl

pub seated_back : (o : Opening) (n inc : ℕ) (now : Option ℕ) (commands : Commands) (ends : List NodeEnds) (shown : ℕ → Client) (clients : List ClientCell)
    → AreSeated o n inc now commands ends shown clients → AreSeated o n inc None commands ends (handed_back n shown) clients
seated_back o n inc now commands ends shown clients each client there = record {
  of = (each client there).of;
  at = back_at n client.client.0 shown ∙ (each client there).at;
  shows = on_clients inc None commands ends (handed_back 0 (at_home shown)) (at_home (handed_back n shown)) client (back_home n client.client.0 shown (each client there).at)
      (each_handed_back inc now commands ends (at_home shown) client (each client there).shows);
}

pub seated_risen : (o : Opening) (n inc new : ℕ) (commands : Commands) (ends : List NodeEnds) (shown : ℕ → Client) (clients : List ClientCell) → inc < new
    → AreSeated o n inc None commands ends shown clients → AreSeated o n new (Some new) commands ends shown clients
seated_risen o n inc new commands ends shown clients later each client there =
    record { of = (each client there).of; at = (each client there).at; shows = each_hands inc commands ends (at_home shown) client new (each client there).shows later }
