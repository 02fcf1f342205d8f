-- What of a node is read for one transaction: where that stays, its face stays.
use Rattle.qs_world_refine.proofs.Words.{◌≡◌, ℕ, Option, Some, unwrap_or, refl, ap, ◌∙◌, Tid, Participant, NodeValue, face, face_at, part_at, unknown, loans_at, is_past_commit}
use Rattle.qs_tm.specs.Manager as tm
use Rattle.qs_world_refine.specs.NodeFaces.{waiting_at}
use Rattle.qs_world_refine.proofs.Alike.{SameFace}

-- beside what is kept of it
pub record SameAround (tid : Tid) (node new : NodeValue) : Type 0 where
  pub setting : new.setting ≡ node.setting
  pub waits : (s : ℕ) → waiting_at new tid s ≡ waiting_at node tid s
  pub loans : loans_at new tid ≡ loans_at node tid
  pub past : is_past_commit new tid ≡ is_past_commit node tid

pub record SameFor (tid : Tid) (node new : NodeValue) : Type 0 where
  pub around : SameAround tid node new
  pub part : tm.part_of tid new.manager ≡ tm.part_of tid node.manager

pub around_itself : (tid : Tid) (node : NodeValue) → SameAround tid node node
around_itself tid node = record { setting = refl; waits = λ s. refl; loans = refl; past = refl }

pub same_for_itself : (tid : Tid) (node : NodeValue) → SameFor tid node node
same_for_itself tid node = record { around = around_itself tid node; part = refl }

pub around_on : (tid : Tid) (a b c : NodeValue) → SameAround tid a b → SameAround tid b c → SameAround tid a c
around_on tid a b c first second = record {
  setting = second.setting ∙ first.setting;
  waits = λ s. second.waits s ∙ first.waits s;
  loans = second.loans ∙ first.loans;
  past = second.past ∙ first.past;
}

pub same_for_on : (tid : Tid) (a b c : NodeValue) → SameFor tid a b → SameFor tid b c → SameFor tid a c
same_for_on tid a b c first second = record { around = around_on tid a b c first.around second.around; part = second.part ∙ first.part }

-- the same participant has the same face
pub face_around : (tid : Tid) (node new : NodeValue) (part : Participant) → SameAround tid node new → SameFace (face node tid part) (face new tid part)
face_around tid node new part same = record {
  is_home = rw same.setting refl;
  on = rw same.setting refl;
  superior = refl;
  last = λ m. refl;
  sent = λ m. refl;
  covered = λ m. refl;
  waits = same.waits;
  uncast = λ s. refl;
  loans = same.loans;
  asked = refl;
  blocked = refl;
  involved = refl;
  told = λ m. refl;
  outcome = refl;
  tell = λ m. refl;
}

unknown_same : (tid : Tid) (node new : NodeValue) → SameAround tid node new → unknown new tid ≡ unknown node tid
unknown_same tid node new same = rw (same.past, same.setting) refl

part_same : (tid : Tid) (node new : NodeValue) → SameFor tid node new → part_at new tid ≡ part_at node tid
part_same tid node new same = rw (same.part, unknown_same tid node new same.around) refl

pub face_for : (tid : Tid) (node new : NodeValue) → SameFor tid node new → SameFace (face_at node tid) (face_at new tid)
face_for tid node new same = rw (part_same tid node new same) (face_around tid node new (part_at node tid) same.around)

-- where it is known
pub part_known : (tid : Tid) (node : NodeValue) (part : Participant) → tm.part_of tid node.manager ≡ Some part → part_at node tid ≡ part
part_known tid node part known = ap (λ (o : Option Participant). unwrap_or o (unknown node tid)) known
