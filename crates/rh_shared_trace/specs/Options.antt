-- The configuration of a shared run.
use Rattle.std.specs.Prelude.{◌/◌}
use Rattle.rh_syntax.specs.declared.line.Header.{Header}
use Rattle.rh_collector.specs.declared.config.SharedConfig.{SharedConfig}
use Rattle.rh_shared_trace.specs.declared.options.RunOptions.{RunOptions}

-- a cycle begins where fewer than half of the words are free; the replicators and the idle words
-- are asked for
abbrev pub shared_config_of : Header → RunOptions → SharedConfig
shared_config_of header options = record {
  replicators = options.replicators;
  copies = 1;
  most = 16;
  mark = header.words / 2;
  history = 65536;
  patience = 1000;
  idle = options.idle;
}
