-- A reply comes, commit is asked for, a cause is kept: what the machine has beside the node stands on.
use Rattle.qs_world_lawful.proofs.Words.{◌≡◌, ◌⊎◌, inl, inr, ℕ, ◌==◌, Bool, true, false, List, [], ◌∷◌, Option, Some, None, refl, sym, ap, subst, ◌∙◌, if◌then◌else◌, list_any-append, filter, find, list_any, ◌||◌, not, is_some, Member, Tid, BookValue, find_transaction, TransactionValue, Cause, Reply, block, answer_issuer, reply_came, take_reply, waits_as, Work, client_cmp, with_manager, is_at, lookup, client_of, answer_of, has_noted, is_answered_by, is_count, waiting_for, Outstanding, Participant}
use Rattle.qs_world_lawful.proofs.Words.{InRun, HoldsBeside, IsTrueCause, awaits_count, is_note_with, book_at, AreApart, or_right}
use Rattle.qs_node_step.specs.Requests as requests
use Rattle.qs_tm.specs.Manager as tm
use Rattle.qs_tm.specs.Participant as participant
use Rattle.qs_tm.specs.Participant.{drop_waiting, is_by_files, note_served}
use Rattle.qs_world_lawful.proofs.BesideGoes.{Goes, goes_elim, goes_if, goes_part, goes_self, goes_then}
use Rattle.qs_world_lawful.proofs.BesideKnown.{goes_custom}
use Rattle.qs_world_lawful.proofs.BesideParts.{PartOn, part_on, whole_self}
use Rattle.qs_world_lawful.proofs.BesidePlain.{goes_answer}
use Rattle.qs_world_lawful.proofs.Faces.{part_apart, part_changed, part_unknown}
use Rattle.qs_world_lawful.proofs.GivenReplies.{for_one, none_dropped}
use Rattle.qs_world_lawful.proofs.LogRecords.{every_append}
use Rattle.qs_world_lawful.proofs.Truths.{clash, left_true, of_some, right_true}

-- ---- a note that is waited for is the one that is answered, or is still waited for, with its count

module _ (member : Member) (number : ℕ) where
  still_with : (count : ℕ) (ws : List Outstanding) (request : Outstanding) → AreApart ws → find (is_answered_by member number) ws ≡ Some request → list_any (is_note_with count) ws ≡ true
      → (list_any (is_note_with count) (filter (λ w. not (is_answered_by member number w)) ws) ≡ true) ⊎ (is_note_with count request ≡ true)
  still_with count [] request apart found is = absurd (cc is)
  still_with count (w ∷ ws) request apart found is = by (is_answered_by member number w) refl found (is_note_with count w) refl is (λ f i. still_with count ws request apart.1 f i)
    where
      kept : list_any (is_answered_by member number) ws ≡ false → list_any (is_note_with count) ws ≡ true → list_any (is_note_with count) (filter (λ w. not (is_answered_by member number w)) ws) ≡ true
      kept none is = subst (λ (xs : List Outstanding). list_any (is_note_with count) xs ≡ true) (sym (none_dropped (is_answered_by member number) ws none)) is

      more : (list_any (is_note_with count) (filter (λ w. not (is_answered_by member number w)) ws) ≡ true) ⊎ (is_note_with count request ≡ true)
          → ((is_note_with count w || list_any (is_note_with count) (filter (λ w. not (is_answered_by member number w)) ws)) ≡ true) ⊎ (is_note_with count request ≡ true)
      more (inl is) = inl (or_right (is_note_with count w) _ is)
      more (inr is) = inr is

      by : (a : Bool) → is_answered_by member number w ≡ a → (if a then Some w else find (is_answered_by member number) ws) ≡ Some request → (b : Bool) → is_note_with count w ≡ b → (b || list_any (is_note_with count) ws) ≡ true
          → (find (is_answered_by member number) ws ≡ Some request → list_any (is_note_with count) ws ≡ true → (list_any (is_note_with count) (filter (λ w. not (is_answered_by member number w)) ws) ≡ true) ⊎ (is_note_with count request ≡ true))
          → (list_any (is_note_with count) (if not a then w ∷ filter (λ w. not (is_answered_by member number w)) ws else filter (λ w. not (is_answered_by member number w)) ws) ≡ true) ⊎ (is_note_with count request ≡ true)
      by true answers found true note is rest = inr (subst (λ (r : Outstanding). is_note_with count r ≡ true) (of_some found) note)
      by true answers found false note is rest = inl (kept (for_one member number w answers ws apart.0) is)
      by false other found true note is rest = inl (rw note refl)
      by false other found false note is rest = more (rest found is)

  -- after the reply
  dropped_on : (p : Participant) (request : Outstanding) → AreApart p.waiting → waiting_for member number p ≡ Some request → is_by_files request ≡ false → PartOn p (drop_waiting member number p)
  dropped_on p request apart found other = record { notes = record { keeps = moved }; asked = refl; outcome = refl; causes = inl refl; members = refl; involved = λ is. is; home = refl; begun_at = refl; unended = λ is. is }
    where
      moved : (count : ℕ) → (has_noted count p ≡ true) ⊎ (awaits_count count p ≡ true) → (has_noted count (drop_waiting member number p) ≡ true) ⊎ (awaits_count count (drop_waiting member number p) ≡ true)
      moved count (inl noted) = inl noted
      moved count (inr waits) = of (still_with count p.waiting request apart found waits)
        where
          of : (awaits_count count (drop_waiting member number p) ≡ true) ⊎ (is_note_with count request ≡ true) → (has_noted count (drop_waiting member number p) ≡ true) ⊎ (awaits_count count (drop_waiting member number p) ≡ true)
          of (inl still) = inr still
          of (inr its) = absurd (clash (sym other ∙ left_true (is_by_files request) (request.count == count) its))

  noted_on : (p : Participant) (request : Outstanding) → AreApart p.waiting → waiting_for member number p ≡ Some request → PartOn p (note_served request.count (drop_waiting member number p))
  noted_on p request apart found = record { notes = record { keeps = moved }; asked = refl; outcome = refl; causes = inl refl; members = refl; involved = λ is. is; home = refl; begun_at = refl; unended = λ is. is }
    where
      last : (a b : Bool) → b ≡ true → (a || (b || false)) ≡ true
      last true b e = refl
      last false b e = rw e refl

      moved : (count : ℕ) → (has_noted count p ≡ true) ⊎ (awaits_count count p ≡ true)
          → (has_noted count (note_served request.count (drop_waiting member number p)) ≡ true) ⊎ (awaits_count count (note_served request.count (drop_waiting member number p)) ≡ true)
      moved count (inl noted) = inl (list_any-append (is_count count) p.noted (request.count ∷ []) ∙ rw noted refl)
      moved count (inr waits) = of (still_with count p.waiting request apart found waits)
        where
          of : (awaits_count count (drop_waiting member number p) ≡ true) ⊎ (is_note_with count request ≡ true)
              → (has_noted count (note_served request.count (drop_waiting member number p)) ≡ true) ⊎ (awaits_count count (note_served request.count (drop_waiting member number p)) ≡ true)
          of (inl still) = inr still
          of (inr its) = inl (list_any-append (is_count count) p.noted (request.count ∷ []) ∙ last (list_any (is_count count) p.noted) (request.count == count) (right_true (is_by_files request) (request.count == count) its))

module _ (stamp : ℕ) (before : BookValue) (run : InRun before) where
  abbrev On : Work → Work → Type 0
  On work new = Goes stamp before run work new

  -- what is kept of one transaction, once more
  pub goes_twice : (work : Work) (tid : Tid) (f g : Participant → Participant) → ((p : Participant) → tm.part_of tid work.node.manager ≡ Some p → PartOn p (g (f p))) → On work (with_manager (tm.with_part tid g) (with_manager (tm.with_part tid f) work))
  goes_twice work tid f g on = goes_custom stamp before run work tid (tm.with_part tid g (tm.with_part tid f work.node.manager)) refl
      (λ t far. part_apart tid t g (tm.with_part tid f work.node.manager) far ∙ part_apart tid t f work.node.manager far)
      (λ none. part_unknown tid g (tm.with_part tid f work.node.manager) (part_unknown tid f work.node.manager none))
      (λ h tx found p known w. (
        g (f p),
        part_changed tid g (tm.with_part tid f work.node.manager) (f p) (part_changed tid f work.node.manager p known),
        part_on (book_at stamp before work) (book_at stamp before work) h.state h.state work.node (record work.node { manager = tm.with_part tid g (tm.with_part tid f work.node.manager) }) tid tx tx p (g (f p)) refl (whole_self work.node.setting.node work.node.setting.inc tx)
            (λ c is. is) (λ is. is) (on p known) w,
      ))

  pub goes_reply : (tid : Tid) (member : Member) (number : ℕ) (reply : Reply) (work : Work) → ((p : Participant) → tm.part_of tid work.node.manager ≡ Some p → AreApart p.waiting) → On work (reply_came tid member number reply work)
  goes_reply tid member number reply work apart = goes_elim stamp before run (requests.waiting_at tid member number work) work work (λ request. take_reply tid reply request (with_manager (tm.drop_waiting tid member number) work)) (λ none. goes_self stamp before run work)
      (λ request is. by request is (is_by_files request) refl)
    where
      waits : (request : Outstanding) → requests.waiting_at tid member number work ≡ Some request → (p : Participant) → tm.part_of tid work.node.manager ≡ Some p → waiting_for member number p ≡ Some request
      waits request is p known = sym (ap (λ (o : Option Participant). elim o [ None ↦ None | Some x ↦ waiting_for member number x ]) known) ∙ is

      by : (request : Outstanding) → requests.waiting_at tid member number work ≡ Some request → (b : Bool) → is_by_files request ≡ b
          → On work (if b then with_manager (tm.note_served tid request.count) (with_manager (tm.drop_waiting tid member number) work) else answer_issuer tid request.member request.number reply (client_of request.issuer) (with_manager (tm.drop_waiting tid member number) work))
      by request is true files = goes_twice work tid (drop_waiting member number) (note_served request.count) (λ p known. noted_on member number p request (apart p known) (waits request is p known))
      by request is false other =
          let dropped : Work = with_manager (tm.drop_waiting tid member number) work in
          goes_then stamp before run work dropped (answer_issuer tid request.member request.number reply (client_of request.issuer) dropped)
          (goes_part stamp before run tid (drop_waiting member number) work (λ p known. dropped_on member number p request (apart p known) (waits request is p known) other))
          (goes_if stamp before run (waits_as tid request.member request.number (lookup (is_at (client_cmp (client_of request.issuer))) work.node.commands)) dropped _ dropped
          (λ w. goes_answer stamp before run (client_of request.issuer) (answer_of reply) dropped) (λ w. goes_self stamp before run dropped))

  -- ---- commit is asked for here, as it is in the machine

  pub goes_ask : (tid : Tid) (work : Work) → ((tx : TransactionValue) → find_transaction (book_at stamp before work) tid ≡ Some tx → is_some tx.asked ≡ true) → On work (with_manager (tm.ask tid) work)
  goes_ask tid work asked = goes_custom stamp before run work tid (tm.ask tid work.node.manager) refl (λ t far. part_apart tid t participant.ask work.node.manager far) (λ none. part_unknown tid participant.ask work.node.manager none)
      (λ h tx found p known w. (
        participant.ask p,
        part_changed tid participant.ask work.node.manager p known,
        record {
          notes = record { issued = w.notes.issued; served = w.notes.served };
          asked = λ is. asked tx found;
          outcome = w.outcome;
          causes = w.causes;
          reads = λ none. let r = w.reads none in record { readers = λ s k. let g = r.readers s k in record { anew = g.anew; unfresh = g.unfresh; told = g.told }; unchanged = r.unchanged; counted = r.counted };
          begun_at = w.begun_at;
          records = w.records;
        },
      ))

  -- ---- a cause that stands is kept

  pub goes_block : (tid : Tid) (cause : Cause) (work : Work) → (HoldsBeside (book_at stamp before work) work.node → IsTrueCause (book_at stamp before work) tid cause) → On work (block tid cause work)
  goes_block tid cause work so = goes_custom stamp before run work tid (tm.add_cause tid cause (tm.refused tid work.node.manager)) refl
      (λ t far. part_apart tid t (participant.add_cause cause) (tm.refused tid work.node.manager) far ∙ part_apart tid t participant.refused work.node.manager far)
      (λ none. part_unknown tid (participant.add_cause cause) (tm.refused tid work.node.manager) (part_unknown tid participant.refused work.node.manager none))
      (λ h tx found p known w. (
        participant.add_cause cause (participant.refused p),
        part_changed tid (participant.add_cause cause) (tm.refused tid work.node.manager) (participant.refused p) (part_changed tid participant.refused work.node.manager p known),
        record {
          notes = record { issued = w.notes.issued; served = w.notes.served };
          asked = w.asked;
          outcome = w.outcome;
          causes = λ none. every_append (IsTrueCause (book_at stamp before work) tid) p.causes (cause ∷ []) (w.causes none) (so h, tt);
          reads = λ none. let r = w.reads none in record { readers = λ s k. let g = r.readers s k in record { anew = g.anew; unfresh = g.unfresh; told = g.told }; unchanged = r.unchanged; counted = r.counted };
          begun_at = w.begun_at;
          records = w.records;
        },
      ))
