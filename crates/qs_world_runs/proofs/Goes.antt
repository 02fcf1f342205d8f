-- Whatever holds from the beginning to the end of each thing that a step does to what its node keeps of transactions, and of each record that it makes, holds of its rules.
use Rattle.qs_world_runs.proofs.Words.{◌≡◌, ◌<◌, Bool, true, false, List, [], ◌∷◌, ◌++◌, Option, Some, None, length, refl, fold, if◌then◌else◌, lookup, remove_entry, is_at, ClientNo, NodeNo, ServerNo, Tid, Act, Answer, Vote, Message, Record, where_undecided, answer, enter, is_other, send, send_each, send_next, Work, client_cmp, with_manager, vote_with, OpenCommand, aborted_participant, is_undecided, new_participant, Participant}
use Rattle.qs_book_journal.specs.declared.entry.Act.TheVariants as acts
use Rattle.qs_record.specs.declared.record.Record.TheVariants as made
use Rattle.qs_node_step.specs.Bringing.{log}
use Rattle.qs_node_step.specs.State.{part_of}
use Rattle.qs_tm.specs.Manager as tm
use Rattle.qs_world_lawful.proofs.Recordless.{unknown}

-- a change of what is kept of a transaction that leaves what its servers did, and that its node is involved
pub record Steady (old new : Participant) : Type 0 where
  pub members : new.members ≡ old.members
  pub involved : old.involved ≡ true → new.involved ≡ true

abbrev pub is_prepare : Record → Bool
is_prepare (made.Prepare tid server covers changes) = true
is_prepare rec = false

pub record Goes (R : Work → Work → Type 0) : Type 0 where
  pub self : (work : Work) → R work work
  pub both : (work mid new : Work) → R work mid → R mid new → R work new
  pub still : (work new : Work) → new.out.records ≡ work.out.records → new.node.manager.known ≡ work.node.manager.known → R work new
  pub part : (tid : Tid) (f : Participant → Participant) (work : Work) → ((part : Participant) → Steady part (f part)) → R work (with_manager (tm.with_part tid f) work)
  pub served : (tid : Tid) (server : ServerNo) (work : Work) → R work (with_manager (tm.served tid server) work)
  pub settled : (tid : Tid) (server : ServerNo) (work : Work) → R work (with_manager (tm.settled tid server) work)
  pub put : (tid : Tid) (part : Participant) (work : Work) → part_of tid work ≡ None → length part.members ≡ 7 → R work (with_manager (tm.put_part tid part) work)
  pub log : (rec : Record) (work : Work) → is_prepare rec ≡ false → R work (log rec work)
  pub vote : (tid : Tid) (server : ServerNo) (ballot : Vote) (work : Work) → server.0 < 7 → (part : Participant) → part_of tid work ≡ Some part → R work (vote_with tid server ballot work)
  pub forget : (tid : Tid) (part : Participant) (work : Work) → part_of tid work ≡ Some part → part.involved ≡ false → R work (with_manager (tm.forget tid) work)

module _ (R : Work → Work → Type 0) (g : Goes R) where
  pub goes_if : (b : Bool) (work x y : Work) → R work x → R work y → R work (if b then x else y)
  goes_if true work x y p q = p
  goes_if false work x y p q = q

  pub goes_elim : {A : Type 0} (o : Option A) (work new : Work) (f : A → Work) → R work new → ((a : A) → R work (f a)) → R work (elim o [ None ↦ new | Some a ↦ f a ])
  goes_elim None work new f p q = p
  goes_elim (Some a) work new f p q = q a

  pub goes_fold : {A : Type 0} (f : Work → A → Work) → ((work : Work) (a : A) → R work (f work a)) → (xs : List A) (work : Work) → R work (fold f work xs)
  goes_fold f each [] work = g.self work
  goes_fold f each (x ∷ xs) work = g.both work (f work x) (fold f (f work x) xs) (each work x) (goes_fold f each xs (f work x))

  pub goes_where : (tid : Tid) (rule : Participant → Work → Work) (work : Work) → ((part : Participant) → part_of tid work ≡ Some part → R work (rule part work)) → R work (where_undecided tid rule work)
  goes_where tid rule work each = by (part_of tid work) refl
    where
      by : (o : Option Participant) → part_of tid work ≡ o → R work (elim o [ None ↦ work | Some part ↦ if is_undecided part then rule part work else work ])
      by None none = g.self work
      by (Some part) known = goes_if (is_undecided part) work (rule part work) work (each part known) (g.self work)

  -- ---- what all rules are made of

  pub goes_enter : (act : Act) (work : Work) → R work (enter act work)
  goes_enter act work = g.still work (enter act work) refl refl

  pub goes_send : (to : NodeNo) (message : Message) (work : Work) → R work (send to message work)
  goes_send to message work = goes_if (is_other work.node.setting to) work _ work (g.still work _ refl refl) (g.self work)

  pub goes_sends : (nodes : List NodeNo) (message : Message) (work : Work) → R work (send_each nodes message work)
  goes_sends nodes message work = goes_fold (send_next message) (λ w to. goes_send to message w) nodes work

  pub goes_answer : (client : ClientNo) (said : Answer) (work : Work) → R work (answer client said work)
  goes_answer client said work = by (lookup (is_at (client_cmp client)) work.node.commands)
    where
      answered : OpenCommand → Work
      answered command = record work {
        node = record work.node { commands = remove_entry (is_at (client_cmp client)) work.node.commands };
        out = record work.out {
          answers = work.out.answers ++ record { client = client; answer = record { line = command.line.line; answer = said } } ∷ [];
          entries = work.out.entries ++ acts.Answer client command.line.line said ∷ [];
        };
      }

      by : (o : Option OpenCommand) → R work (elim o [ None ↦ work | Some command ↦ answered command ])
      by None = g.self work
      by (Some command) = g.still work (answered command) refl refl

  -- ---- one more transaction is known

  goes_known : (tid : Tid) (part : Participant) → length part.members ≡ 7 → (work : Work) → R work (with_manager (λ manager. if tm.knows tid manager then manager else tm.put_part tid part manager) work)
  goes_known tid part sized work = by (tm.knows tid work.node.manager) refl
    where
      by : (b : Bool) → tm.knows tid work.node.manager ≡ b → R work (with_manager (λ manager. if b then manager else tm.put_part tid part manager) work)
      by true is = g.self work
      by false is = g.put tid part work (unknown tid work.node.manager is) sized

  pub goes_meet : (tid : Tid) (work : Work) → R work (with_manager (tm.meet tid) work)
  goes_meet tid work = goes_known tid (new_participant (tm.is_home tid work.node.manager)) refl work

  pub goes_keep : (tid : Tid) (work : Work) → R work (with_manager (tm.keep_abort tid) work)
  goes_keep tid work = goes_known tid (aborted_participant (tm.is_home tid work.node.manager)) refl work
