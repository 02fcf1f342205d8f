-- What a rule does that makes no record: its entries are plain, and what the node knows of its log stays.
use Rattle.qs_world_lawful.proofs.Words.{◌≡◌, Bool, true, false, List, [], ◌∷◌, ◌++◌, Option, Some, None, refl, sym, ap, ◌∙◌, append_assoc, fold, if◌then◌else◌, append-nil, is_some, NodeNo, Tid, ClientNo, Act, Answer, Message, lookup, remove_entry, is_at, is_undecided, Manager, Participant, where_undecided, enter, send, send_each, is_other, Work, with_manager, client_cmp, OpenCommand, Every, is_plain, IsPlain}
use Rattle.qs_book_journal.specs.declared.entry.Act.TheVariants as acts
use Rattle.qs_tm.specs.Manager as tm
use Rattle.qs_node_step.specs.Bringing.{send_next, answer}
use Rattle.qs_node_step.specs.State.{part_of}
use Rattle.qs_world_lawful.proofs.LogRecords.{every_append}
use Rattle.qs_world_lawful.proofs.Marks.{SameMarks, IsUnmarked, KnowsOn, knows_self, knows_then, part_on, put_on}

pub record Quiet (work new : Work) : Type 0 where
  pub more : List Act
  pub entries : new.out.entries ≡ work.out.entries ++ more
  pub plain : Every IsPlain more
  pub records : new.out.records ≡ work.out.records
  pub force : new.out.force ≡ work.out.force
  pub setting : new.node.setting ≡ work.node.setting
  pub knows : KnowsOn work.node.manager new.node.manager

pub quiet_of : (work new : Work) → new.out.entries ≡ work.out.entries → new.out.records ≡ work.out.records → new.out.force ≡ work.out.force → new.node.setting ≡ work.node.setting → KnowsOn work.node.manager new.node.manager → Quiet work new
quiet_of work new entries records force setting knows = record { more = []; entries = entries ∙ sym (append-nil work.out.entries); plain = tt; records = records; force = force; setting = setting; knows = knows }

pub quiet_self : (work : Work) → Quiet work work
quiet_self work = quiet_of work work refl refl refl refl (knows_self work.node.manager)

pub quiet_then : (work mid new : Work) → Quiet work mid → Quiet mid new → Quiet work new
quiet_then work mid new a b = record {
  more = a.more ++ b.more;
  entries = b.entries ∙ (ap (λ (acted : List Act). acted ++ b.more) a.entries ∙ append_assoc work.out.entries a.more b.more);
  plain = every_append IsPlain a.more b.more a.plain b.plain;
  records = b.records ∙ a.records;
  force = b.force ∙ a.force;
  setting = b.setting ∙ a.setting;
  knows = knows_then work.node.manager mid.node.manager new.node.manager a.knows b.knows;
}

pub quiet_if : (b : Bool) (work x y : Work) → Quiet work x → Quiet work y → Quiet work (if b then x else y)
quiet_if true work x y p q = p
quiet_if false work x y p q = q

pub quiet_elim : {A : Type 0} (o : Option A) (work new : Work) (g : A → Work) → Quiet work new → ((a : A) → Quiet work (g a)) → Quiet work (elim o [ None ↦ new | Some a ↦ g a ])
quiet_elim None work new g p q = p
quiet_elim (Some a) work new g p q = q a

pub quiet_fold : {A : Type 0} (f : Work → A → Work) → ((work : Work) (a : A) → Quiet work (f work a)) → (xs : List A) (work : Work) → Quiet work (fold f work xs)
quiet_fold f each [] work = quiet_self work
quiet_fold f each (x ∷ xs) work = quiet_then work (f work x) (fold f (f work x) xs) (each work x) (quiet_fold f each xs (f work x))

-- ---- what all rules are made of

pub quiet_enter : (act : Act) (work : Work) → is_plain act ≡ true → Quiet work (enter act work)
quiet_enter act work plain = record { more = act ∷ []; entries = refl; plain = (plain, tt); records = refl; force = refl; setting = refl; knows = knows_self work.node.manager }

pub quiet_manager : (f : Manager → Manager) (work : Work) → KnowsOn work.node.manager (f work.node.manager) → Quiet work (with_manager f work)
quiet_manager f work knows = quiet_of work (with_manager f work) refl refl refl refl knows

-- a change of what is kept of a transaction
pub quiet_part : (tid : Tid) (f : Participant → Participant) (work : Work) → ((part : Participant) → SameMarks part (f part)) → Quiet work (with_manager (tm.with_part tid f) work)
quiet_part tid f work keeps = quiet_manager (tm.with_part tid f) work (part_on tid f keeps work.node.manager)

pub quiet_send : (to : NodeNo) (message : Message) (work : Work) → Quiet work (send to message work)
quiet_send to message work = quiet_if (is_other work.node.setting to) work _ work (quiet_of work _ refl refl refl refl (knows_self work.node.manager)) (quiet_self work)

pub quiet_sends : (nodes : List NodeNo) (message : Message) (work : Work) → Quiet work (send_each nodes message work)
quiet_sends nodes message work = quiet_fold (send_next message) (λ w to. quiet_send to message w) nodes work

pub quiet_answer : (client : ClientNo) (said : Answer) (work : Work) → Quiet work (answer client said work)
quiet_answer client said work = by (lookup (is_at (client_cmp client)) work.node.commands)
  where
    by : (o : Option OpenCommand) → Quiet work (elim o [
      | None ↦ work
      | Some command ↦ record work {
        node = record work.node { commands = remove_entry (is_at (client_cmp client)) work.node.commands };
        out = record work.out {
          answers = work.out.answers ++ record { client = client; answer = record { line = command.line.line; answer = said } } ∷ [];
          entries = work.out.entries ++ acts.Answer client command.line.line said ∷ [];
        };
      }
    ])
    by None = quiet_self work
    by (Some command) = record { more = acts.Answer client command.line.line said ∷ []; entries = refl; plain = (refl, tt); records = refl; force = refl; setting = refl; knows = knows_self work.node.manager }

pub quiet_where : (tid : Tid) (rule : Participant → Work → Work) (work : Work) → ((part : Participant) → Quiet work (rule part work)) → Quiet work (where_undecided tid rule work)
quiet_where tid rule work each = by (part_of tid work)
  where
    by : (o : Option Participant) → Quiet work (elim o [ None ↦ work | Some part ↦ if is_undecided part then rule part work else work ])
    by None = quiet_self work
    by (Some part) = quiet_if (is_undecided part) work (rule part work) work (each part) (quiet_self work)

-- ---- one more transaction is known

pub unknown : (tid : Tid) (manager : Manager) → tm.knows tid manager ≡ false → tm.part_of tid manager ≡ None
unknown tid manager is = by (tm.part_of tid manager) refl
  where
    by : (o : Option Participant) → tm.part_of tid manager ≡ o → o ≡ None
    by None at = refl
    by (Some part) at = absurd (cc (sym (ap is_some at) ∙ is))

pub quiet_put : (tid : Tid) (part : Participant) → IsUnmarked part → (manager : Manager) → KnowsOn manager (if tm.knows tid manager then manager else tm.put_part tid part manager)
quiet_put tid part none manager = by (tm.knows tid manager) refl
  where
    by : (b : Bool) → tm.knows tid manager ≡ b → KnowsOn manager (if b then manager else tm.put_part tid part manager)
    by true is = knows_self manager
    by false is = put_on tid part none manager (unknown tid manager is)

pub quiet_meet : (tid : Tid) (work : Work) → Quiet work (with_manager (tm.meet tid) work)
quiet_meet tid work = quiet_manager (tm.meet tid) work (quiet_put tid _ (record { prepared = refl; listed = refl }) work.node.manager)

pub quiet_keep : (tid : Tid) (work : Work) → Quiet work (with_manager (tm.keep_abort tid) work)
quiet_keep tid work = quiet_manager (tm.keep_abort tid) work (quiet_put tid _ (record { prepared = refl; listed = refl }) work.node.manager)
