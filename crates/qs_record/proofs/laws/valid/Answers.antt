use Rattle.qs_record.proofs.Fronts.{record_valid}
use Rattle.qs_record.proofs.laws.valid.Goals as goal

pub returns : goal.returns
returns c = record {
  tid = λ tid part p. p.valid;
  member = λ member part p. p.valid;
  nodes = λ nodes part p. p.valid;
  op = λ op part p. p.valid;
  changes = λ changes part p. p.valid;
  rec = record_valid;
}
