use Rattle.qs_book_laws.proofs.LearnsAll.{learns_all}
use Rattle.qs_book_laws.proofs.OnRecord.{on_record_pends}
use Rattle.qs_book_laws.proofs.Unlearnt.{pending_learns}
use Rattle.qs_book_laws.proofs.laws.what_is_pending_is_to_be_learnt.Goals as goal

pub returns : goal.returns
returns c = record {
  recorded = λ opened history tid member coherent keeps there lawful is. on_record_pends opened coherent tid member keeps there history lawful is;
  learns = λ opened history tid member tx node coherent keeps there at_home lawful found node_there unabort plain has. pending_learns opened coherent tid member keeps there at_home history lawful tx node found node_there unabort plain has;
  learnt = λ opened history stamp n tid servers node coherent there at_home lawful is node_there all. learns_all opened history stamp n tid servers node coherent there at_home lawful is node_there all;
}
