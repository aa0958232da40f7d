use Rattle.ds_tokens.proofs.RunLemmas.{IsCharBoundary-behind_first}
use Rattle.ds_tokens.proofs.lexer.runs.split_longer.Goals as goal

pub split_at-requires : goal.split_at-requires
split_at-requires c =
    IsCharBoundary-behind_first c.args.text.now c.skip.result.now c.as_bytes.result.now c.args.class c.run_len-more.result c.requires.there c.skip.ensures c.skip.utf8 c.as_bytes.ensures.value c.run_len-more.ensures.len
