-- The number, the place, the registers, and then the names.
use Rattle.std.proofs.Common.{rules}
use Rattle.crash_json.specs.Tree.{count}
use Rattle.crash_json.proofs.Tokens.{in_object, more, named}
use Rattle.crash_json.proofs.frames.EachFrameNumberedJsonNamedFrame.put_at.Goals as goal

pub returns : goal.returns
returns c = record {
  tokens = rw (in_object _ _ _ _ c.in_ok-begin_object.ensures.ok
      (more _ _ _ _ _ (named _ _ _ _ (count c.args.number) c.in_ok-key.ensures.ok c.in_ok-put.ensures.tokens)
      (more _ _ _ _ _ c.in_ok-add_place.ensures.tokens
      (more _ _ _ _ _ (named _ _ _ _ _ c.in_ok-key-2.ensures.ok c.in_ok-put_registers.ensures.tokens)
      c.in_ok-add_names.ensures.tokens)))) at c.end_object.ensures.ok;
  before = search rules;
}
