-- Answers go out: a client that none of them is to stands as before, and one that is answered has its answer on its way.
use Rattle.std.proofs.Common.{◌≡◌, ◌⊎◌, ◌∙◌, ap, inl, inr, refl, subst, sym, ℕ, ◌==◌, Bool, true, false, List, [], ◌∷◌, drop, fold, Option, Some, None, arith, cond, if◌then◌else◌}
use Rattle.std.proofs.lemmas.Bool.Decides.{nat_tests}
use Rattle.std.specs.BTreeMap.{is_at}
use Rattle.std.specs.List.{list_any}
use Rattle.std.specs.Map.{remove_entry}
use Rattle.qs_base.specs.declared.identifiers.ClientNo.{ClientNo}
use Rattle.qs_cell.specs.Visits.{deliver}
use Rattle.qs_cell_chronicle.specs.Carried as carried
use Rattle.qs_cell_chronicle.specs.Carried.{Commands, without}
use Rattle.qs_cell_chronicle.specs.declared.carried.HeldCommand.{HeldCommand}
use Rattle.qs_client.specs.declared.cell.ClientCell.{ClientCell}
use Rattle.qs_link.specs.Lanes.{delivered, ends_of, with_answer}
use Rattle.qs_link.specs.declared.ends.NodeEnds.{NodeEnds}
use Rattle.qs_world_lawful.proofs.Answers.{client_exact}
use Rattle.qs_world_lawful.proofs.OtherShares.{removed_apart}
use Rattle.qs_book_laws.proofs.Rising.{IsRising, remove_rises, removed}
use Rattle.qs_node_step.specs.State.{client_cmp}
use Rattle.qs_node_step.specs.declared.event.ClientAnswer.{ClientAnswer}
use Rattle.qs_world.specs.Posting.{answered, clients_after, handed_back, is_answer_to}
use Rattle.qs_world.specs.World.{Client}
use Rattle.qs_world_one.specs.Clients.{ShowsClient}
use Rattle.qs_world_one.specs.Showing.{AnswersGo, AnswersHeld, RiseHands, ShowsIn, StopHandsBack, answers_to, held_for}
use Rattle.qs_world_one.specs.Turns.{unhanded}
use Rattle.qs_world_one.proofs.Handing.{found_changed, found_other, not_at}
use Rattle.qs_world_one.proofs.Hands.{each_answered, each_risen, each_stopped}

-- ---- one client, and the answers that go out

module _ (k : ClientNo) where
  turned : (a : ClientAnswer) → is_answer_to k.0 a ≡ false → (k.0 == a.client.0) ≡ false
  turned a far = off a.client.0 k.0 far
    where
      off : (x y : ℕ) → (x == y) ≡ false → (y == x) ≡ false
      off x y e = grind (arith, nat_tests, e)

  own : (a : ClientAnswer) → is_answer_to k.0 a ≡ true → a.client ≡ k
  own a is = ap (λ (n : ℕ). record { 0 = n }) (same a.client.0 k.0 is)
    where
      same : (x y : ℕ) → (x == y) ≡ true → x ≡ y
      same x y e = grind (arith, nat_tests, e)

  ends_one : (a : ClientAnswer) (ends : List NodeEnds) → is_answer_to k.0 a ≡ false → ends_of k (deliver ends a) ≡ ends_of k ends
  ends_one a ends far = found_other a.client k (with_answer a.answer) (λ e. refl) (turned a far) ends

  held_one : (a : ClientAnswer) (commands : Commands) → is_answer_to k.0 a ≡ false → held_for k (without commands a) ≡ held_for k commands
  held_one a commands far = removed_apart (is_at (client_cmp a.client)) (is_at (client_cmp k)) apart commands
    where
      apart : (x : ClientNo) → is_at (client_cmp k) x ≡ true → is_at (client_cmp a.client) x ≡ false
      apart x at = subst (λ (y : ClientNo). is_at (client_cmp a.client) y ≡ false) (client_exact k x at) (not_at a.client k far)

  -- ---- none is to it

  pub record IsLeft (ends : List NodeEnds) (commands : Commands) (said : List ClientAnswer) : Type 0 where
    pub ends_are : ends_of k (fold deliver ends said) ≡ ends_of k ends
    pub held_is : held_for k (carried.answered said commands) ≡ held_for k commands
    pub none : list_any (is_answer_to k.0) said ≡ false

  pub left : (said : List ClientAnswer) (ends : List NodeEnds) (commands : Commands) → answers_to k said ≡ [] → IsLeft ends commands said
  left [] ends commands e = record { ends_are = refl; held_is = refl; none = refl }
  left (a ∷ said) ends commands e = by (is_answer_to k.0 a) refl e (left said (deliver ends a) (without commands a))
    where
      by : (b : Bool) → is_answer_to k.0 a ≡ b → cond b (a ∷ answers_to k said) (answers_to k said) ≡ [] → (answers_to k said ≡ [] → IsLeft (deliver ends a) (without commands a) said) → IsLeft ends commands (a ∷ said)
      by true is none more = absurd (cc none)
      by false is none more =
          let it : IsLeft (deliver ends a) (without commands a) said = more none in
          record { ends_are = it.ends_are ∙ ends_one a ends is; held_is = it.held_is ∙ held_one a commands is; none = rw is it.none }

  -- ---- one is to it

  pub record IsTold (ends : List NodeEnds) (commands : Commands) (said : List ClientAnswer) (answer : ClientAnswer) (end : NodeEnds) : Type 0 where
    pub ends_are : ends_of k (fold deliver ends said) ≡ Some (with_answer answer.answer end)
    pub held_is : held_for k (carried.answered said commands) ≡ None
    pub one : list_any (is_answer_to k.0) said ≡ true

  told : (said : List ClientAnswer) (ends : List NodeEnds) (commands : Commands) (answer : ClientAnswer) (end : NodeEnds) → IsRising client_cmp commands → ends_of k ends ≡ Some end
      → answers_to k said ≡ answer ∷ [] → IsTold ends commands said answer end
  told [] ends commands answer end rising there e = absurd (cc e)
  told (a ∷ said) ends commands answer end rising there e = by (is_answer_to k.0 a) refl e (told said (deliver ends a) (without commands a) answer end (remove_rises client_cmp (is_at (client_cmp a.client)) commands rising))
    where
      by : (b : Bool) → is_answer_to k.0 a ≡ b → cond b (a ∷ answers_to k said) (answers_to k said) ≡ answer ∷ []
          → (ends_of k (deliver ends a) ≡ Some end → answers_to k said ≡ answer ∷ [] → IsTold (deliver ends a) (without commands a) said answer end) → IsTold ends commands (a ∷ said) answer end
      by true is first more =
          let rest : IsLeft (deliver ends a) (without commands a) said = left said (deliver ends a) (without commands a) (ap (drop 1) first) in
          record {
            ends_are = rest.ends_are ∙ (found a.client (own a is) ∙ ap (λ (x : ClientAnswer). Some (with_answer x.answer end)) same);
            held_is = rest.held_is ∙ gone a.client (own a is);
            one = rw is refl;
          }
        where
          same : a ≡ answer
          same = cc first

          found : (c : ClientNo) → c ≡ k → ends_of k (delivered c a.answer ends) ≡ Some (with_answer a.answer end)
          found c is_k = rw is_k (found_changed k (with_answer a.answer) (λ e. refl) ends end there)

          gone : (c : ClientNo) → c ≡ k → held_for k (remove_entry (is_at (client_cmp c)) commands) ≡ None
          gone c is_k = rw is_k (removed client_cmp client_exact k commands rising)
      by false is first more =
          let it : IsTold (deliver ends a) (without commands a) said answer end = more (ends_one a ends is ∙ there) first in
          record { ends_are = it.ends_are; held_is = it.held_is; one = rw is it.one }

-- ---- what stands then

pub each_answers : (inc : ℕ) (now : Option ℕ) (commands : Commands) (ends : List NodeEnds) (clients : ℕ → Client) (said : List ClientAnswer) (client : ClientCell) → AnswersGo inc now commands ends clients said client
each_answers inc now commands ends clients said client rising right s = by (right client.client)
  where
    by : (answers_to client.client said ≡ []) ⊎ AnswersHeld (held_for client.client commands) (answers_to client.client said)
        → ShowsIn inc now (carried.answered said commands) (fold deliver ends said) (clients_after said clients) client
    by (inl none) =
        let it : IsLeft client.client ends commands said = left client.client said ends commands none in
        record {
          small = s.small;
          own = s.own;
          end = s.end;
          there = it.ends_are ∙ s.there;
          shows = subst (λ (h : Option HeldCommand). ShowsClient inc now (record { client = client; end = s.end; held = h }) (clients_after said clients client.client.0)) (sym it.held_is)
              (subst (λ (b : Bool). ShowsClient inc now (record { client = client; end = s.end; held = held_for client.client commands }) (if b then answered (clients client.client.0) else clients client.client.0)) (sym it.none) s.shows);
        }
    by (inr h) =
        let it : IsTold client.client ends commands said h.answer s.end = told client.client said ends commands h.answer s.end rising s.there h.is in
        record {
          small = s.small;
          own = s.own;
          end = with_answer h.answer.answer s.end;
          there = it.ends_are;
          shows = subst (λ (x : Option HeldCommand). ShowsClient inc now (record { client = client; end = with_answer h.answer.answer s.end; held = x }) (clients_after said clients client.client.0)) (sym it.held_is)
              (subst (λ (b : Bool). ShowsClient inc now (record { client = client; end = with_answer h.answer.answer s.end; held = None }) (if b then answered (clients client.client.0) else clients client.client.0)) (sym it.one)
              (each_answered inc now (record { client = client; end = s.end; held = held_for client.client commands }) (clients client.client.0) h.command h.answer.answer s.shows h.has h.number));
        }

pub each_handed_back : (inc : ℕ) (now : Option ℕ) (commands : Commands) (ends : List NodeEnds) (clients : ℕ → Client) (client : ClientCell) → StopHandsBack inc now commands ends clients client
each_handed_back inc now commands ends clients client s = record {
  small = s.small;
  own = s.own;
  end = s.end;
  there = s.there;
  shows = subst (λ (c : Client). ShowsClient inc None (record { client = client; end = s.end; held = held_for client.client commands }) c) (sym world_is)
      (each_stopped inc now (record { client = client; end = s.end; held = held_for client.client commands }) (clients client.client.0) s.shows);
}
  where
    world_is : handed_back 0 clients client.client.0 ≡ unhanded (clients client.client.0)
    world_is = rw s.shows.at refl

pub each_hands : (inc : ℕ) (commands : Commands) (ends : List NodeEnds) (clients : ℕ → Client) (client : ClientCell) → RiseHands inc commands ends clients client
each_hands inc commands ends clients client new s later = record {
  small = s.small;
  own = s.own;
  end = s.end;
  there = s.there;
  shows = each_risen inc (record { client = client; end = s.end; held = held_for client.client commands }) (clients client.client.0) new s.shows later;
}
