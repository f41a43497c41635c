use Rattle.std.proofs.Common.{◌≡◌, ◌≤◌, drop, vec_len, []}
use Rattle.tp_lexer.specs.Contents.{content_from}
use Rattle.tp_lexer.specs.declared.constant.Part.TheVariants.{Start}
use Rattle.tp_lexer.proofs.constant.content_of.Given as goal

abbrev pub invariant-loop-byte : goal.invariant-loop-byte
invariant-loop-byte l = record {
  rest : content_from l.part l.code l.text.items (drop l.byte-index l.bytes) ≡ content_from Start 0 [] l.bytes;
  code : l.code ≤ 256;
  short : vec_len l.text ≤ 255;
}
