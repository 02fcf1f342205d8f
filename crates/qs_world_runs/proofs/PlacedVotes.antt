-- A vote for commit is cast, a loan is given back, and a request that was on its way comes to wait: all places hold on.
use Rattle.qs_world_runs.proofs.Words.{◌≡◌, ℕ, ◌<◌, Bool, true, false, List, Some, None, refl, sym, ap, subst, ◌∙◌, if◌then◌else◌, nat_lt, ClientNo, Member, ServerNo, Tid, give_back, Inv, BookValue, inc_at, life, Vote, yield, enter, member_here, Work, here, with_doings, with_kept, enter_vote, log_vote, served_count, vote_with, Sending, sent_to, Field, IsPresent, asked, LeavesPlaces, PlacedAmid, book_amid, field_amid, is_against, eq_le, same_Some}
use Rattle.qs_ipc.specs.Ipc as ipc
use Rattle.qs_book_journal.specs.declared.entry.Act.TheVariants as acts
use Rattle.qs_book_machine.specs.Lawful.{IsLawful}
use Rattle.qs_book_machine.specs.Transaction.{borrower}
use Rattle.qs_ops.specs.declared.answer.Answer.TheVariants as answers
use Rattle.qs_ops.specs.declared.vote.Vote.TheVariants as votes
use Rattle.qs_world_runs.specs.PlacesAmid.{counted}
use Rattle.qs_world_runs.proofs.CountedQueues.{count_in}
use Rattle.qs_world_runs.proofs.PlacedActs.{vote_obliged, yield_obliged}
use Rattle.qs_world_runs.proofs.PlacedAmid.{act_on, entries, lawful_then, left_on}
use Rattle.qs_world_runs.proofs.FieldRoom.{more_grows}
use Rattle.qs_world_runs.proofs.PlacedTx.{Grows}
use Rattle.qs_world_runs.proofs.PlacesLeft.{answer_leaves, itself_leaves, same_leaves}

module _ (t : Tid) (base : Field) (knows : ℕ → ℕ) (n stamp : ℕ) (before : BookValue) (i : Inv before) (work : Work) (here_is : (here work).0 ≡ n) (n_in : n < base.size) (on : base.up n ≡ true) (inc_is : inc_at (book_amid n stamp before work) (record { 0 = n }) ≡ base.inc n) where
  abbrev amid : Work → Field
  amid w = field_amid base knows n w

  same_grows : (new : Work) → new.out.messages ≡ work.out.messages → new.node.queues ≡ work.node.queues → Grows t (amid work) (amid new)
  same_grows new ms qs = more_grows t base knows n work new (λ at server. eq_le (counted t at server work.node) (counted t at server new.node) (ap (λ (queues : ipc.IpcValue). count_in t at server queues) (sym qs)))
      (λ q server number. eq_le (asked t server number (sent_to q work.out.messages)) (asked t server number (sent_to q new.out.messages)) (ap (λ (xs : List Sending). asked t server number (sent_to q xs)) (sym ms)))

  -- ---- votes

  module _ (server : ServerNo) (ballot : Vote) (for_it : is_against ballot ≡ false) where
    abbrev voted : Work
    voted = enter_vote t server ballot work

    logged : (b : Vote) → LeavesPlaces t voted (log_vote b t server voted)
    logged (votes.Abort reason) = itself_leaves t voted
    logged votes.ReadOnly = itself_leaves t voted
    logged votes.Volatile = itself_leaves t voted
    logged votes.Recoverable = same_leaves t voted (log_vote votes.Recoverable t server voted) refl refl refl refl

    present : IsPresent (amid voted) (life (member_here work server) (inc_at (book_amid n stamp before work) (record { 0 = n })))
    present = record { in_run = subst (λ (k : ℕ). k < base.size) (sym here_is) n_in; up = subst (λ (k : ℕ). base.up k ≡ true) (sym here_is) on; now = inc_is ∙ ap base.inc (sym here_is) }

    pub vote_placed : IsLawful before (entries t base knows n stamp before i (vote_with t server ballot work)) → PlacedAmid t base knows n stamp before work → PlacedAmid t base knows n stamp before (vote_with t server ballot work)
    vote_placed lawful placed = left_on t base knows n stamp before i voted (vote_with t server ballot work) (logged ballot) lawful
        (act_on t base knows n stamp before i work voted (acts.Vote t (member_here work server) ballot (served_count t server work)) refl (lawful_then t base knows n stamp before i voted (vote_with t server ballot work) (logged ballot).more (logged ballot).entries lawful)
        (λ h. vote_obliged t (amid work) (amid voted) (same_grows voted refl refl) (book_amid n stamp before work) stamp n t (member_here work server) ballot (served_count t server work) for_it present) placed)

  -- ---- loans

  pub yield_placed : (client : ClientNo) → IsLawful before (entries t base knows n stamp before i (yield client t work)) → PlacedAmid t base knows n stamp before work → PlacedAmid t base knows n stamp before (yield client t work)
  yield_placed client lawful placed = left_on t base knows n stamp before i given (yield client t work) answered lawful
      (act_on t base knows n stamp before i work given (acts.Yield t client) refl (lawful_then t base knows n stamp before i given (yield client t work) answered.more answered.entries lawful)
      (λ h. yield_obliged t (amid work) (amid given) (same_grows given refl refl) (book_amid n stamp before work) stamp n t client (λ member is. present member (in_here (nat_lt client.0 224) member is))) placed)
    where
      given : Work
      given = with_doings t (λ doings. record doings { yielded = true }) (enter (acts.Yield t client) (with_kept (λ kept. record kept { loans = give_back client t kept.loans }) work))

      answered : LeavesPlaces t given (yield client t work)
      answered = answer_leaves t client answers.Done given

      in_here : (b : Bool) (member : Member) → (if b then Some (borrower client (record { 0 = n })) else None) ≡ Some member → n ≡ member.node.0
      in_here true member e = ap (λ (m : Member). m.node.0) (same_Some (borrower client (record { 0 = n })) member e)
      in_here false member e = absurd (cc e)

      present : (member : Member) → n ≡ member.node.0 → IsPresent (amid given) (life member (inc_at (book_amid n stamp before work) (record { 0 = n })))
      present member at = record { in_run = subst (λ (k : ℕ). k < base.size) at n_in; up = subst (λ (k : ℕ). base.up k ≡ true) at on; now = inc_is ∙ ap base.inc at }
