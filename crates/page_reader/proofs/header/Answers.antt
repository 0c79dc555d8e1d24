use Rattle.page_reader.proofs.Loading.{tag_fits, header_is, sum_fits}
use Rattle.page_reader.proofs.header.Goals as goal

pub overflow_cast-result : goal.overflow_cast-result
overflow_cast-result c = search tag_fits

pub overflow_add-result : goal.overflow_add-result
overflow_add-result c = search sum_fits

pub returns : goal.returns
returns c = header_is _ _ c.args.page.sectioned _ _ c.requires.free_value c.requires.s_value
