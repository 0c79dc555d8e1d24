use Rattle.page_parser.proofs.aged.Goals as goal

pub returns : goal.returns
returns c = cc
