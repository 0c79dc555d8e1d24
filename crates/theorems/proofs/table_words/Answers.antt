-- `theorems::table_words` meets its contract.
use Rattle.theorems.proofs.table_words.Goals as goal

pub returns : goal.returns
returns c = record {
  types = λ i. (c.type_inv.types i).fits;
  fields = λ i. (c.type_inv.fields i).fits;
  consts = λ i. (c.type_inv.consts i).fits;
  bytes = λ i. (c.type_inv.bytes i).fits;
}
